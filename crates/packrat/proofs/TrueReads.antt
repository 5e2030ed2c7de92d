-- A reading over a table that has room, is true and closed under calls: it answers the evaluation without records, the table is true
-- and closed afterwards and holds what was held or reached, and the count goes up by the number of pairs reached and not held; where
-- the nesting is above the allowance it refuses with 14, and with nothing else. Assumes nothing.
--     pair_reads, pair_deep, only_14      for every pair of the image and the text, and every allowance of at most 4,096
--     start_reads, start_deep             for the start pair
use Rattle.grammar.specs.declared.refusal.Refusal.{Refusal}
use Rattle.grammar.specs.declared.refusal.Refusal.TheVariants.{Nesting}
use Prim.Native.Nat.{ℕ, ◌+◌, ◌≤◌, ◌<◌, ◌^◌}
use native.Mathlib.Omega.{arith}
use native.Mathlib.Nat.{mul-le-mul}
use mathlib.Core.Path.{◌≡◌, refl, sym, ap, ◌∙◌, subst}
use mathlib.Core.Bool.{Bool, true, false, not, ◌&&◌, ◌||◌, true≢false}
use mathlib.Core.List.{List}
use lib.ListN.{length}
use borrow.Author.Tests.{le-leb}
use Rattle.grammar.specs.declared.Evaluation.{Evaluation}
use Rattle.grammar.specs.Image.{rules, start, body}
use Rattle.grammar.specs.Questions.{Accepted}
use Rattle.grammar.specs.Evaluates.{Fresh, bodies_only, a_node, a_pair}
use Rattle.grammar.proofs.Determinism.{no_record}
use Rattle.grammar.proofs.Bools.{or_left, or_right}
use Rattle.evaluation.specs.Calls.{Pair, In, is_in, calls_of, bodies_of}
use Rattle.evaluation.proofs.Pairs.{in_is, is_in_lem}
use Rattle.evaluation.proofs.Counts.{count_same, count_most}
use Rattle.evaluation.proofs.Range.{called_in_range}
use Rattle.evaluation.proofs.Reach.{bodies_closed}
use Rattle.evaluation.proofs.Totality.{total_pair}
use Rattle.records.specs.Words.{is_held, word_of}
use Rattle.records.proofs.Codec.{word_held}
use Rattle.packrat.specs.Model.{rule_m, node_m}
use Rattle.packrat.specs.Over.{word_at, Over}
use Rattle.packrat.specs.True.{IsTrue, TrueTable}
use Rattle.packrat.specs.Stores.{Room, Stores, RefusedWith, evaluations}
use Rattle.packrat.specs.Closed.{ClosedTable, Gains, new_pairs, Reads}
use Rattle.packrat.proofs.OverTables.{Result, fine, deep, pair_over, word-possible, over_within}
use Rattle.packrat.proofs.Grown.{grown_none}
use Rattle.packrat.proofs.TrueTables.{over_of_fresh, fresh_of_over, bodies_over}
use Rattle.packrat.proofs.Stores.{kept_pair, over_in_range, determined, too_deep}

-- Of a test that two tests make up.
both_true : (a b : Bool) → a && not b ≡ true → (a ≡ true) × (b ≡ false)
both_true true true e = absurd (true≢false (sym e))
both_true true false e = (refl, refl)
both_true false b e = absurd (true≢false (sym e))

or_held : (a b : Bool) → a && not b ≡ false → b ≡ b || a
or_held true true e = refl
or_held true false e = absurd (true≢false e)
or_held false true e = refl
or_held false false e = refl

module _ (img text table : List ℕ) (accepted : Accepted img) (short : length text ≤ 65535) (true_words : TrueTable img text table) where
  module _ (room : Room img text table) (closed : ClosedTable img text table) {r p : ℕ} {z : Evaluation}
      (e : Fresh img text (a_pair r) p z) (l : r < rules img) (h : p ≤ length text)
    where
      run : Over img text table (a_pair r) p z
      run = over_of_fresh img text table accepted.lawful.words short true_words e l h

      -- The bodies evaluated are those reached and not held.
      evaluated-are : (s q : ℕ) → is_in s q (bodies_of run) ≡ is_in s q (bodies_of e) && not (is_held (word_at img table s q))
      evaluated-are = bodies_over img text table accepted.lawful.words short true_words run e l h closed

      count-is : evaluations img text (bodies_of run) ≡ new_pairs img text table (bodies_of e)
      count-is =
          count_same (rules img) (length text + 1) (λ s q. is_in s q (bodies_of run))
          (λ s q. is_in s q (bodies_of e) && not (is_held (word_at img table s q)))
          (λ s q m j. evaluated-are s q)

      module _ {after : List ℕ} (st : Stores img text table (bodies_of run) after) where
        same_word : (s q : ℕ) → s < rules img → is_in s q (bodies_of run) ≡ false → word_at img after s q ≡ word_at img table s q
        same_word s q m k =
            kept_pair st (λ x i. (over_in_range img text table accepted.lawful.words short run l h x i).rule_in) s q m k

        -- A stored word is held,
        stored-held :
            (s q : ℕ) → q ≤ length text → In (record { rule = s; position = q }) (bodies_of run)
            → is_held (word_at img after s q) ≡ true
        stored-held s q j i =
            let w = st.gained s q i in
            let k =
            word-possible w.value q (length text) short
            (over_within img text table accepted.lawful.words short w.evaluated j)
            w.nesting_allowed in
            ap is_held w.word_is ∙ le-leb (2 ^ 63) (word_of w.value) (word_held w.value k.0)

        -- and true.
        stored-true :
            (s q : ℕ) → s < rules img → q ≤ length text → In (record { rule = s; position = q }) (bodies_of run)
            → IsTrue img text s q (word_at img after s q)
        stored-true s q m j i =
            let w = st.gained s q i in
            let f = total_pair img text accepted s m q j in
            let k = fresh_of_over img text table accepted.lawful.words short true_words w.evaluated f.evaluated m j in
            record {
              value = w.value;
              evaluated = subst (Fresh img text (a_pair s) q) (sym k) f.evaluated;
              word_is = w.word_is;
              nesting_allowed = w.nesting_allowed;
            }

        holds :
            (s q : ℕ) → s < rules img → q ≤ length text
            → is_held (word_at img after s q) ≡ is_held (word_at img table s q) || is_in s q (bodies_of e)
        holds s q m j = go (is_in s q (bodies_of run)) refl
          where
            go :
                (b : Bool) → is_in s q (bodies_of run) ≡ b
                → is_held (word_at img after s q) ≡ is_held (word_at img table s q) || is_in s q (bodies_of e)
            go true k =
                let d = both_true (is_in s q (bodies_of e)) (is_held (word_at img table s q)) (sym (evaluated-are s q) ∙ k) in
                stored-held s q j (is_in_lem s q (bodies_of run) k)
                ∙ sym (or_right (is_held (word_at img table s q)) (is_in s q (bodies_of e)) d.0)
            go false k =
                ap is_held (same_word s q m k)
                ∙ or_held (is_in s q (bodies_of e)) (is_held (word_at img table s q)) (sym (evaluated-are s q) ∙ k)

        true-after : TrueTable img text after
        true-after = record { held_words = λ s q m j f. go s q m j f (is_in s q (bodies_of run)) refl }
          where
            go :
                (s q : ℕ) → s < rules img → q ≤ length text → is_held (word_at img after s q) ≡ true
                → (b : Bool) → is_in s q (bodies_of run) ≡ b
                → IsTrue img text s q (word_at img after s q)
            go s q m j f true k = stored-true s q m j (is_in_lem s q (bodies_of run) k)
            go s q m j f false k =
                let w = same_word s q m k in
                subst (IsTrue img text s q) (sym w) (true_words.held_words s q m j (sym (ap is_held w) ∙ f))

        closed_after : ClosedTable img text after
        closed_after = record { called_held = λ s q m j f x u y i. go s q m j f x u y i (is_held (word_at img table s q)) refl }
          where
            go :
                (s q : ℕ) → s < rules img → q ≤ length text → is_held (word_at img after s q) ≡ true
                → (x : Evaluation) (u : Fresh img text (a_node (body img s)) q x) (y : Pair)
                → In y (calls_of u)
                → (b : Bool) → is_held (word_at img table s q) ≡ b
                → is_held (word_at img after y.rule y.position) ≡ true
            go s q m j f x u y i b k =
                let place =
                called_in_range img text bodies_only accepted.lawful.words (λ r p x h e. absurd (no_record e))
                (record { rule = s; position = q }) x u (record { rule_in = m; position_in = j }) y i in
                holds y.rule y.position place.rule_in place.position_in ∙ by b k
              where
                by :
                    (b : Bool) → is_held (word_at img table s q) ≡ b
                    → is_held (word_at img table y.rule y.position) || is_in y.rule y.position (bodies_of e) ≡ true
                by true k =
                    or_left (is_held (word_at img table y.rule y.position)) (is_in y.rule y.position (bodies_of e))
                    (closed.called_held s q m j k x u y i)
                by false k =
                    let reached : is_in s q (bodies_of e) ≡ true =
                    ap (λ (b : Bool). b || is_in s q (bodies_of e)) (sym k) ∙ sym (holds s q m j) ∙ f in
                    or_right (is_held (word_at img table y.rule y.position)) (is_in y.rule y.position (bodies_of e))
                    (in_is (bodies_closed e (is_in_lem s q (bodies_of e) reached) u i))

        gains : Gains img text table (bodies_of e) after
        gains =
            record {
              as_long = st.as_long;
              true_words = true-after;
              closed = closed_after;
              holds = holds;
              kept = λ j other.
                  st.kept j
                  (λ s q i k.
                  let d = both_true (is_in s q (bodies_of e)) (is_held (word_at img table s q)) (sym (evaluated-are s q) ∙ in_is i) in
                  other s q (is_in_lem s q (bodies_of e) d.0) d.1 k);
            }

      pub pair_reads :
          (left : ℕ) → left ≤ 4096 → z.nesting ≤ left → (c : ℕ)
          → Reads img text table c z (bodies_of e) (rule_m img text (node_m img text left) left r p table c)
      pair_reads left most k c =
          let d = determined img text table accepted.lawful.words short room run l h left most k c in
          record {
            after = d.after;
            counted = d.counted;
            is = d.is;
            gains = gains d.stores;
            counts = λ m.
                let a = d.counts (omega arith) in
                let b = count-is in
                let few = count_most (rules img) (length text + 1) (λ s q. is_in s q (bodies_of run)) in
                let most-positions : length text + 1 ≤ 65536 = omega arith in
                let most-pairs = mul-le-mul accepted.lawful.counts.few_rules most-positions in
                omega arith;
          }

  pub pair_deep :
      {r p : ℕ} {z : Evaluation} → Fresh img text (a_pair r) p z → r < rules img → p ≤ length text
      → (left : ℕ) → left ≤ 4096 → left < z.nesting → (c : ℕ)
      → RefusedWith Nesting (rule_m img text (node_m img text left) left r p table c)
  pair_deep e l h left most k c =
      too_deep img text table accepted.lawful.words short
      (over_of_fresh img text table accepted.lawful.words short true_words e l h) l h left most k c

  -- Nothing but 14 is refused: 12 is not.
  pub only_14 :
      (r p : ℕ) → r < rules img → p ≤ length text
      → (left : ℕ) → left ≤ 4096 → (c : ℕ) (k : Refusal)
      → RefusedWith k (rule_m img text (node_m img text left) left r p table c)
      → k ≡ Nesting
  only_14 r p l h left most c k f =
      let e = total_pair img text accepted r l p h in
      let d = over_of_fresh img text table accepted.lawful.words short true_words e.evaluated l h in
      go (pair_over img text table accepted.lawful.words short r p d l h left most table (grown_none img text table) c)
    where
      go :
          {z : Evaluation} {ps : List Pair}
          → Result img text table accepted.lawful.words short (rule_m img text (node_m img text left) left r p table c) z left table c ps
          → k ≡ Nesting
      go (deep u d n q) = cc (f.is, q)
      go (fine u d n g a q) = absurd (let z : ◌≡◌ {A = ℕ} 0 1 = cc (f.is, q) in omega arith)

  module _ {z : Evaluation} (e : Fresh img text (a_pair (start img)) 0 z) where
    pub start_reads :
        Room img text table → ClosedTable img text table → z.nesting ≤ 4096 → (c : ℕ)
        → Reads img text table c z (bodies_of e) (rule_m img text (node_m img text 4096) 4096 (start img) 0 table c)
    start_reads room closed k c = pair_reads room closed e accepted.lawful.counts.start_rule (omega arith) 4096 (omega arith) k c

    pub start_deep : 4096 < z.nesting → (c : ℕ) → RefusedWith Nesting (rule_m img text (node_m img text 4096) 4096 (start img) 0 table c)
    start_deep k c = pair_deep e accepted.lawful.counts.start_rule (omega arith) 4096 (omega arith) k c
