-- Over a true table the evaluation is the fresh one: history does not show in what is read. And where the table is closed under calls,
-- the bodies evaluated over it are those of the fresh evaluation whose pairs are not held. Assumes nothing.
--     over_of_fresh    what Ford's rules give, the rules over a true table give
--     fresh_of_over    and the other way round, where the fresh evaluation exists
--     bodies_over      the bodies evaluated over the table
--     none_true, none_closed    a table that holds no pair of the text is true and closed
use Prim.Native.Nat.{ℕ, ◌≤◌, ◌<◌}
use mathlib.Core.Path.{◌≡◌, refl, sym, ap, ◌∙◌}
use mathlib.Core.Bool.{Bool, true, false, not, ◌&&◌, ◌||◌, true≢false}
use mathlib.Core.List.{List, [], ◌∷◌, ◌++◌}
use lib.ListN.{length}
use lib.Dec.{eqb}
use borrow.Author.Tests.{eqb-true}
use Rattle.grammar.specs.declared.Evaluation.{Evaluation}
use Rattle.grammar.specs.Image.{rules, root, body}
use Rattle.grammar.specs.Questions.{Question4}
use Rattle.grammar.specs.Evaluates.{Fresh, Subject, by_record, bodies_only, a_node, a_pair}
use Rattle.grammar.specs.Evaluates.{ev_empty, ev_terminal, ev_then_first_fails, ev_then, ev_else_first, ev_else_second}
use Rattle.grammar.specs.Evaluates.{ev_star, ev_last_round, ev_round, ev_not, ev_call, ev_body, ev_record}
use Rattle.grammar.proofs.Determinism.{one, no_record}
use Rattle.grammar.proofs.References.{refers, root_in_range}
use Rattle.evaluation.specs.Calls.{Pair, is_in, bodies_of}
use Rattle.evaluation.proofs.Plain.{fresh_within}
use Rattle.evaluation.proofs.Pairs.{is_in_lem, is_in_both}
use Rattle.evaluation.proofs.BodiesOnce.{bodies_once}
use Rattle.evaluation.proofs.Range.{InImage, PairOf, all_inside, called_in_range}
use Rattle.records.specs.Words.{is_held, possible, value_of, word_of}
use Rattle.records.proofs.Codec.{value_back}
use Rattle.records.proofs.Test.{passes_test}
use Rattle.packrat.specs.Over.{word_at, taken, over, Over}
use Rattle.packrat.specs.True.{TrueTable}
use Rattle.packrat.specs.Closed.{ClosedTable}
use Rattle.packrat.proofs.OverTables.{word-possible}

-- A test that two parts pass, each under a condition.
under : (a b c d k : Bool) → a ≡ c && k → b ≡ d && k → a || b ≡ (c || d) && k
under a b c d k e f = ap (λ (x : Bool). x || b) e ∙ ap (λ (x : Bool). c && k || x) f ∙ go c d k
  where
    go : (c d k : Bool) → c && k || d && k ≡ (c || d) && k
    go true d true = refl
    go true true false = refl
    go true false false = refl
    go false d k = refl

-- What passes the test is held.
none_left : (a h : Bool) → (a ≡ true → h ≡ true) → false ≡ a && not h
none_left true h f = sym (ap not (f refl))
none_left false h f = refl

module _ (img table : List ℕ) where
  -- The pairs of xs that are not held are those of us.
  abbrev pub Unheld : (us xs : List Pair) → Type 0
  Unheld us xs = (r q : ℕ) → is_in r q us ≡ is_in r q xs && not (is_held (word_at img table r q))

  unheld_both : (us vs xs ys : List Pair) → Unheld us xs → Unheld vs ys → Unheld (us ++ vs) (xs ++ ys)
  unheld_both us vs xs ys f g r q =
      is_in_both r q us vs
      ∙ under (is_in r q us) (is_in r q vs) (is_in r q xs) (is_in r q ys) (not (is_held (word_at img table r q))) (f r q) (g r q)
      ∙ ap (λ (b : Bool). b && not (is_held (word_at img table r q))) (sym (is_in_both r q xs ys))

  unheld_first :
      (r p : ℕ) (us xs : List Pair) → is_held (word_at img table r p) ≡ false → Unheld us xs
      → Unheld (record { rule = r; position = p } ∷ us) (record { rule = r; position = p } ∷ xs)
  unfolding is_in
  unheld_first r p us xs e f s q =
      under (eqb r s && eqb p q) (is_in s q us) (eqb r s && eqb p q) (is_in s q xs) (not (is_held (word_at img table s q)))
      (itself (eqb r s) refl (eqb p q) refl) (f s q)
    where
      itself : (a : Bool) → eqb r s ≡ a → (b : Bool) → eqb p q ≡ b → a && b ≡ a && b && not (is_held (word_at img table s q))
      itself true ea true eb =
          sym (ap (λ (i : ℕ). not (is_held (word_at img table i q))) (sym (eqb-true r s ea))
          ∙ ap (λ (i : ℕ). not (is_held (word_at img table r i))) (sym (eqb-true p q eb))
          ∙ ap not e)
      itself true ea false eb = refl
      itself false ea b eb = refl

module _ (img text table : List ℕ) (words : Question4 img) where
  -- In a closed table all that is evaluated in a held pair's fresh evaluation is held.
  held_inside :
      ClosedTable img text table → (r p : ℕ) {z : Evaluation} (u : Fresh img text (a_pair r) p z)
      → r < rules img → p ≤ length text → is_held (word_at img table r p) ≡ true
      → Unheld img table [] (bodies_of u)
  unfolding is_in
  held_inside closed r p u l h e s q =
      none_left (is_in s q (bodies_of u)) (is_held (word_at img table s q))
      (λ k.
      (all_inside (λ (x : Pair). PairOf img text x × (is_held (word_at img table x.rule x.position) ≡ true))
      (λ x z v a y i. (
        called_in_range img text bodies_only words (λ r p x h e. absurd (no_record e)) x z v a.0 y i,
        closed.called_held x.rule x.position a.0.rule_in a.0.position_in a.1 z v y i,
      ))
      u
      (record { rule_in = l; position_in = h }, e)
      (record { rule = s; position = q })
      (is_in_lem s q (bodies_of u) k)).1)

module _ (img text table : List ℕ) (words : Question4 img) (short : length text ≤ 65535) (true_words : TrueTable img text table) where
  -- The evaluation over the table, where the fresh one evaluates the bodies of ps.
  record Same (s : Subject) (p : ℕ) (z : Evaluation) (ps : List Pair) : Type 0 where
    evaluated : Over img text table s p z
    bodies : ClosedTable img text table → Unheld img table (bodies_of evaluated) ps

  -- A pair, whether its word is held or not.
  pair_of :
      (r p : ℕ) {z : Evaluation}
      → r < rules img
      → p ≤ length text
      → (u : Fresh img text (a_node (body img r)) p z)
      → Same (a_node (body img r)) p z (bodies_of u)
      → Same (a_pair r) p z (record { rule = r; position = p } ∷ bodies_of u)
  unfolding over bodies_of
  pair_of r p {z} l h u v = go (is_held (word_at img table r p)) refl
    where
      go : (b : Bool) → is_held (word_at img table r p) ≡ b → Same (a_pair r) p z (record { rule = r; position = p } ∷ bodies_of u)
      go false e =
          record {
            evaluated =
                ev_body (ap (λ (k : Bool). taken k (possible (word_at img table r p) p (length text)) (word_at img table r p)) e) v.evaluated;
            bodies = λ c. unheld_first img table r p (bodies_of v.evaluated) (bodies_of u) e (v.bodies c);
          }
      go true e =
          let t = true_words.held_words r p l h e in
          let q = word-possible t.value p (length text) short (fresh_within t.evaluated h) t.nesting_allowed in
          let says : value_of (word_at img table r p) ≡ z =
          ap value_of t.word_is ∙ value_back t.value q.0 ∙ one img text bodies_only t.evaluated (ev_body refl u) in
          let okay : possible (word_at img table r p) p (length text) ≡ true =
          ap (λ (w : ℕ). possible w p (length text)) t.word_is ∙ passes_test (word_of t.value) p (length text) q.1 in
          record {
            evaluated =
                ev_record
                (ap (λ (k : Bool). taken k (possible (word_at img table r p) p (length text)) (word_at img table r p)) e
                ∙ ap (λ (k : Bool). taken true k (word_at img table r p)) okay
                ∙ ap by_record says);
            bodies = λ c. held_inside img text table words c r p (ev_body refl u) l h e;
          }

  -- Two parts, one after the other.
  parts :
      {s t : Subject} {p q : ℕ} {y z : Evaluation} {ps qs : List Pair} (a : Same s p y ps) (b : Same t q z qs) → ClosedTable img text table
      → Unheld img table (bodies_of a.evaluated ++ bodies_of b.evaluated) (ps ++ qs)
  parts {ps = ps} {qs = qs} a b c = unheld_both img table (bodies_of a.evaluated) (bodies_of b.evaluated) ps qs (a.bodies c) (b.bodies c)

  same : {s : Subject} {p : ℕ} {z : Evaluation} (u : Fresh img text s p z) → InImage img s → p ≤ length text → Same s p z (bodies_of u)
  unfolding body bodies_of is_in
  same (ev_empty e) r h = record { evaluated = ev_empty e; bodies = λ c r q. refl }
  same (ev_terminal e) r h = record { evaluated = ev_terminal e; bodies = λ c r q. refl }
  same (ev_then_first_fails {a} u m e) r h =
      let x = same u (refers img words a r.0) h in
      record { evaluated = ev_then_first_fails x.evaluated m e; bodies = x.bodies }
  same (ev_then {a} {b} u m v e) r h =
      let x = same u (refers img words a r.0) h in
      let y = same v (refers img words b r.1) (fresh_within u h).in_text in
      record {
        evaluated = ev_then x.evaluated m y.evaluated e;
        bodies = parts x y;
      }
  same (ev_else_first {a} u m e) r h =
      let x = same u (refers img words a r.0) h in
      record { evaluated = ev_else_first x.evaluated m e; bodies = x.bodies }
  same (ev_else_second {a} {b} u m v e) r h =
      let x = same u (refers img words a r.0) h in
      let y = same v (refers img words b r.1) h in
      record {
        evaluated = ev_else_second x.evaluated m y.evaluated e;
        bodies = parts x y;
      }
  same (ev_star u e) r h = let x = same u r h in record { evaluated = ev_star x.evaluated e; bodies = x.bodies }
  same (ev_last_round {a} u m e) r h =
      let x = same u (refers img words a r) h in
      record { evaluated = ev_last_round x.evaluated m e; bodies = x.bodies }
  same (ev_round {a} u m v e) r h =
      let x = same u (refers img words a r) h in
      let y = same v r (fresh_within u h).in_text in
      record {
        evaluated = ev_round x.evaluated m y.evaluated e;
        bodies = parts x y;
      }
  same (ev_not {a} u e) r h =
      let x = same u (refers img words a r) h in
      record { evaluated = ev_not x.evaluated e; bodies = x.bodies }
  same (ev_call u e) r h = let x = same u r h in record { evaluated = ev_call x.evaluated e; bodies = x.bodies }
  same {p = p} (ev_body {r} q u) l h = pair_of r p l h u (same u (refers img words (root img r) (root_in_range img words r l)) h)
  same (ev_record q) r h = absurd (no_record q)

  -- What an evaluation without records gives, an evaluation over the table gives.
  pub over_of_fresh :
      {s : Subject} {p : ℕ} {z : Evaluation} → Fresh img text s p z → InImage img s → p ≤ length text → Over img text table s p z
  over_of_fresh u r h = (same u r h).evaluated

  -- And nothing else.
  pub fresh_of_over :
      {s : Subject} {p : ℕ} {x z : Evaluation}
      → Over img text table s p z
      → Fresh img text s p x
      → InImage img s
      → p ≤ length text
      → z ≡ x
  fresh_of_over u v r h = one img text (over img text table) u (over_of_fresh v r h)

  pub bodies_over :
      {s : Subject} {p : ℕ} {x z : Evaluation} (d : Over img text table s p z) (u : Fresh img text s p x)
      → InImage img s
      → p ≤ length text
      → ClosedTable img text table
      → (r q : ℕ) → is_in r q (bodies_of d) ≡ is_in r q (bodies_of u) && not (is_held (word_at img table r q))
  bodies_over d u i h c r q =
      let x = same u i h in
      ap (is_in r q) (bodies_once img text (over img text table) d x.evaluated) ∙ x.bodies c r q

module _ (img text table : List ℕ) (none : (r p : ℕ) → r < rules img → p ≤ length text → is_held (word_at img table r p) ≡ false) where
  pub none_true : TrueTable img text table
  none_true = record { held_words = λ r p l h e. absurd (true≢false (sym e ∙ none r p l h)) }

  pub none_closed : ClosedTable img text table
  none_closed = record { called_held = λ r p l h e z u y i. absurd (true≢false (sym e ∙ none r p l h)) }
