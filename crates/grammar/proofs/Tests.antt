-- Questions 1 to 5 as tests that compute: a test passes exactly when its question holds. `lawful_image` serves images that are written
-- out, the other direction the number of an image (crate `rounds`). Assumes nothing.
use Prim.Native.Nat.{ℕ, zero, suc, ◌+◌, ◌*◌, ◌<◌}
use native.Mathlib.Omega.{arith}
use borrow.Author.Tests.{eqb-true, eqb-false, leb-true, ltb-true, eq-eqb, ne_eqb, le-leb, lt-ltb, not-true}
use mathlib.Core.Path.{◌≡◌, refl, sym, ◌∙◌, ap}
use mathlib.Core.Bool.{Bool, true, false, ◌&&◌, not, true≢false}
use mathlib.Core.List.{List, ◌++◌}
use lib.ListN.{length}
use lib.Dec.{eqb, leb}
use Rattle.grammar.proofs.Bools.{both, joined}
use Rattle.grammar.specs.Image.{edition, rules, nodes, start, rule_zero, root, kind, node_zero, field_a, field_b}
use Rattle.grammar.specs.Questions.{Question1, Question2, Question3, Question4, Question5, Lawful, LawfulRule, LawfulNode}
use Rattle.grammar.specs.Questions.{roots, children_below, occurrences}
use Rattle.grammar.specs.Tests.{where_so, every, edition_test, counts_test, size_test, header_test, rule_test, node_test, words_test}
use Rattle.grammar.specs.Tests.{once_test}

asked : (a b : Bool) → where_so a b ≡ true → a ≡ true → b ≡ true
asked true b e h = e
asked false b e h = absurd (true≢false (sym h))

asks : (a b : Bool) → (a ≡ true → b ≡ true) → where_so a b ≡ true
asks true b h = h refl
asks false b h = refl

pub below : (n : ℕ) (f : ℕ → Bool) → every n f ≡ true → (k : ℕ) → k < n → f k ≡ true
unfolding every
below zero f e k l = absurd (omega arith)
below (suc n) f e k l = go (λ h. below n f (both (f n) (every n f) e).1 k h) (eqb k n) refl
  where
    go : (k < n → f k ≡ true) → (b : Bool) → eqb k n ≡ b → f k ≡ true
    go rest true d = ap f (eqb-true k n d) ∙ (both (f n) (every n f) e).0
    go rest false d = let ne = eqb-false k n d in rest (omega (arith, ne))

pub all_below : (n : ℕ) (f : ℕ → Bool) → ((k : ℕ) → k < n → f k ≡ true) → every n f ≡ true
unfolding every
all_below zero f h = refl
all_below (suc n) f h = joined (h n (omega arith)) (all_below n f (λ k l. h k (omega arith)))

module _ (img : List ℕ) where
  lawful_rule : (r : ℕ) → rule_test img r ≡ true → LawfulRule img r
  unfolding rule_test
  lawful_rule r e =
      let t = both _ _ e in
      record { zero_bits = eqb-true (rule_zero img r) 0 t.0; root_node = ltb-true (root img r) (nodes img) t.1 }

  rule_passes : (r : ℕ) → LawfulRule img r → rule_test img r ≡ true
  unfolding rule_test
  rule_passes r q = joined (eq-eqb (rule_zero img r) 0 q.zero_bits) (lt-ltb (root img r) (nodes img) q.root_node)

  lawful_node : (n : ℕ) → node_test img n ≡ true → LawfulNode img n
  unfolding node_test
  lawful_node n e =
      let t1 = both _ _ e in
      let t2 = both _ _ t1.1 in
      let t3 = both _ _ t2.1 in
      let t4 = both _ _ t3.1 in
      let t5 = both _ _ t4.1 in
      let t6 = both _ _ t5.1 in
      let t7 = both _ _ t6.1 in
      let t8 = both _ _ t7.1 in
      let t9 = both _ _ t8.1 in
      let k = kind img n in
      let a = field_a img n in
      let b = field_b img n in
      record {
        zero_bits = λ h. eqb-true (node_zero img n) 0 (asked _ _ t1.0 (ap not (ne_eqb k 2 h)));
        zero_bits_2 = λ h. leb-true (node_zero img n) _ (asked _ _ t2.0 (eq-eqb k 2 h));
        known_kind = leb-true k 7 t3.0;
        unused_A = λ h. eqb-true a 0 (asked _ _ t4.0 (le-leb k 1 h));
        unused_B = λ h. eqb-true b 0 (asked _ _ t5.0 (le-leb k 1 h));
        unused_B_5_to_7 = λ h. eqb-true b 0 (asked _ _ t6.0 (le-leb 5 k h));
        byte_range = λ h. let t = both _ _ (asked _ _ t7.0 (eq-eqb k 2 h)) in (leb-true a b t.0, leb-true b 255 t.1);
        child_A = λ h l. let t = both _ _ (asked _ _ t8.0 (joined (le-leb 3 k h) (le-leb k 6 l))) in (ltb-true n a t.0, ltb-true a (nodes img) t.1);
        child_B = λ h l. let t = both _ _ (asked _ _ t9.0 (joined (le-leb 3 k h) (le-leb k 4 l))) in (ltb-true n b t.0, ltb-true b (nodes img) t.1);
        called = λ h. ltb-true a (rules img) (asked _ _ t9.1 (eq-eqb k 7 h));
      }

  node_passes : (n : ℕ) → LawfulNode img n → node_test img n ≡ true
  unfolding node_test
  node_passes n q =
      let k = kind img n in
      let a = field_a img n in
      let b = field_b img n in
      joined (asks _ _ (λ h. eq-eqb (node_zero img n) 0 (q.zero_bits (eqb-false k 2 (not-true (eqb k 2) h)))))
      (joined (asks _ _ (λ h. le-leb (node_zero img n) _ (q.zero_bits_2 (eqb-true k 2 h))))
      (joined (le-leb k 7 q.known_kind)
      (joined (asks _ _ (λ h. eq-eqb a 0 (q.unused_A (leb-true k 1 h))))
      (joined (asks _ _ (λ h. eq-eqb b 0 (q.unused_B (leb-true k 1 h))))
      (joined (asks _ _ (λ h. eq-eqb b 0 (q.unused_B_5_to_7 (leb-true 5 k h))))
      (joined (asks _ _ (λ h. let r = q.byte_range (eqb-true k 2 h) in joined (le-leb a b r.0) (le-leb b 255 r.1)))
      (joined
      (asks _ _ (λ h. let t = both (leb 3 k) (leb k 6) h in let r = q.child_A (leb-true 3 k t.0) (leb-true k 6 t.1) in joined (lt-ltb n a r.0) (lt-ltb a (nodes img) r.1)))
      (joined
      (asks _ _ (λ h. let t = both (leb 3 k) (leb k 4) h in let r = q.child_B (leb-true 3 k t.0) (leb-true k 4 t.1) in joined (lt-ltb n b r.0) (lt-ltb b (nodes img) r.1)))
      (asks _ _ (λ h. lt-ltb a (rules img) (q.called (eqb-true k 7 h))))))))))))

  -- Question 1,
  pub edition_asked : edition_test img ≡ true → Question1 img
  edition_asked e =
      let t = both (leb 4 (length img)) (eqb (edition img) 1) e in
      record { four_bytes = leb-true 4 (length img) t.0; edition_1 = eqb-true (edition img) 1 t.1 }

  pub edition_passes : Question1 img → edition_test img ≡ true
  edition_passes q = joined (le-leb 4 (length img) q.four_bytes) (eq-eqb (edition img) 1 q.edition_1)

  -- question 2,
  pub counts_asked : counts_test img ≡ true → Question2 img
  counts_asked e =
      let t1 = both _ _ e in
      let t2 = both _ _ t1.1 in
      let t3 = both _ _ t2.1 in
      let t4 = both _ _ t3.1 in
      record {
        some_rules = leb-true 1 (rules img) t1.0;
        few_rules = leb-true (rules img) 64 t2.0;
        some_nodes = leb-true 1 (nodes img) t3.0;
        few_nodes = leb-true (nodes img) 1024 t4.0;
        start_rule = ltb-true (start img) (rules img) t4.1;
      }

  pub counts_passes : Question2 img → counts_test img ≡ true
  counts_passes q =
      joined (le-leb 1 (rules img) q.some_rules)
      (joined (le-leb (rules img) 64 q.few_rules)
      (joined (le-leb 1 (nodes img) q.some_nodes)
      (joined (le-leb (nodes img) 1024 q.few_nodes) (lt-ltb (start img) (rules img) q.start_rule))))

  -- question 3,
  pub size_asked : size_test img ≡ true → Question3 img
  size_asked e = record { exact = eqb-true (length img) (4 + 2 * rules img + 4 * nodes img) e }

  pub size_passes : Question3 img → size_test img ≡ true
  size_passes q = eq-eqb (length img) (4 + 2 * rules img + 4 * nodes img) q.exact

  pub header_asked : header_test img ≡ true → Question1 img × Question2 img × Question3 img
  unfolding header_test
  header_asked e =
      let t = both (edition_test img) (counts_test img && size_test img) e in
      let u = both (counts_test img) (size_test img) t.1 in
      (edition_asked t.0, counts_asked u.0, size_asked u.1)

  -- question 4,
  pub words_asked : words_test img ≡ true → Question4 img
  unfolding words_test
  words_asked e =
      let t = both _ _ e in
      record {
        rule_words = λ r l. lawful_rule r (below (rules img) (rule_test img) t.0 r l);
        node_words = λ n l. lawful_node n (below (nodes img) (node_test img) t.1 n l);
      }

  pub words_passes : Question4 img → words_test img ≡ true
  unfolding words_test
  words_passes q =
      joined
      (all_below (rules img) (rule_test img) (λ r l. rule_passes r (q.rule_words r l)))
      (all_below (nodes img) (node_test img) (λ n l. node_passes n (q.node_words n l)))

  -- and question 5.
  pub once_asked : every (nodes img) (once_test img) ≡ true → Question5 img
  unfolding once_test
  once_asked e =
      record {
        once = λ n l.
            eqb-true (occurrences n (roots img (rules img) ++ children_below img (nodes img))) 1
            (below (nodes img) (once_test img) e n l);
      }

  pub once_passes : Question5 img → every (nodes img) (once_test img) ≡ true
  unfolding once_test
  once_passes q =
      all_below (nodes img) (once_test img)
      (λ n l. eq-eqb (occurrences n (roots img (rules img) ++ children_below img (nodes img))) 1 (q.once n l))

  -- An image that passes the three tests is lawful.
  pub lawful_image : header_test img ≡ true → words_test img ≡ true → every (nodes img) (once_test img) ≡ true → Lawful img
  lawful_image h w o =
      let q = header_asked h in
      record { header = q.0; counts = q.1; size = q.2; words = words_asked w; tree = once_asked o }
