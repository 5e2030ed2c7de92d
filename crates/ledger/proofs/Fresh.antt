-- There are evaluations as the ledger asks for: totality gives each pair's evaluation, and the pairs reached are those whose body is
-- evaluated in the start pair's. And all such functions give the same. Assumes nothing.
--     evaluations                         functions that will do
--     one_value, one_reached, one_rows    any two give the same
use Prim.Native.Nat.{ℕ, ◌≤◌, ◌<◌}
use native.Mathlib.Omega.{arith}
use mathlib.Core.Path.{◌≡◌, refl, sym, ◌∙◌}
use mathlib.Core.Bool.{Bool, true, false, true≢false}
use mathlib.Core.List.{List}
use mathlib.Core.Logic.{◌↔◌}
use lib.ListN.{length}
use lib.Dec.{leb, ltb}
use borrow.Author.Tests.{ltb-true, le-leb, leb-true, lt-ltb}
use Rattle.grammar.specs.declared.Evaluation.{Evaluation}
use Rattle.grammar.specs.Image.{rules, start}
use Rattle.grammar.specs.Questions.{Accepted}
use Rattle.grammar.specs.Evaluates.{Fresh, bodies_only, a_pair, empty_here}
use Rattle.grammar.proofs.Determinism.{one}
use Rattle.evaluation.specs.Calls.{is_in, Reached, bodies_of}
use Rattle.evaluation.proofs.Totality.{Exists, total_pair}
use Rattle.evaluation.proofs.Reach.{reached_is, is_reached}
use Rattle.rows.specs.Rows.{rows_of}
use Rattle.rows.proofs.RowsOnce.{rows_once}
use Rattle.ledger.specs.Ledger.{Evaluations}

module _ (img : List ℕ) (accepted : Accepted img) (text : List ℕ) where
  -- The value of a pair whose rule and position are in range; any other elsewhere.
  by_range : (r q : ℕ) (a b : Bool) → ltb r (rules img) ≡ a → leb q (length text) ≡ b → Evaluation
  by_range r q true true e f = (total_pair img text accepted r (ltb-true r (rules img) e) q (leb-true q (length text) f)).value
  by_range r q true false e f = empty_here
  by_range r q false b e f = empty_here

  in_range :
      (r q : ℕ) (a b : Bool) (e : ltb r (rules img) ≡ a) (f : leb q (length text) ≡ b)
      → r < rules img
      → q ≤ length text
      → Fresh img text (a_pair r) q (by_range r q a b e f)
  unfolding by_range
  in_range r q true true e f l h = (total_pair img text accepted r (ltb-true r (rules img) e) q (leb-true q (length text) f)).evaluated
  in_range r q true false e f l h = absurd (true≢false (sym (le-leb q (length text) h) ∙ f))
  in_range r q false b e f l h = absurd (true≢false (sym (lt-ltb r (rules img) l) ∙ e))

  start_exists : Exists img text (a_pair (start img)) 0
  start_exists = total_pair img text accepted (start img) accepted.lawful.counts.start_rule 0 (omega arith)

pub evaluations : Evaluations
evaluations =
    record {
      value = λ img accepted text r q. by_range img accepted text r q (ltb r (rules img)) (leb q (length text)) refl refl;
      value_is = λ img accepted text r q l h. in_range img accepted text r q (ltb r (rules img)) (leb q (length text)) refl refl l h;
      reached = λ img accepted text r q. is_in r q (bodies_of (start_exists img accepted text).evaluated);
      reached_is = λ img accepted text r q. (
        λ e. is_reached (start_exists img accepted text).evaluated r q e,
        λ k. reached_is {x = record { rule = r; position = q }} (start_exists img accepted text).evaluated k,
      );
      rows = λ img accepted text. rows_of (start_exists img accepted text).evaluated 0;
      rows_are = λ img accepted text d. rows_once img text (start_exists img accepted text).evaluated d 0;
    }

-- Two tests of one fact.
pub same_test : (a b : Bool) (P : Type 0) → (a ≡ true) ↔ P → (b ≡ true) ↔ P → a ≡ b
same_test true true P f g = refl
same_test true false P f g = sym (g.1 (f.0 refl))
same_test false true P f g = f.1 (g.0 refl)
same_test false false P f g = refl

module _ (ev other : Evaluations) (img : List ℕ) (accepted : Accepted img) (text : List ℕ) where
  pub one_value :
      (r q : ℕ) → r < rules img → q ≤ length text → ev.value img accepted text r q ≡ other.value img accepted text r q
  one_value r q l h =
      one img text bodies_only (ev.value_is img accepted text r q l h) (other.value_is img accepted text r q l h)

  pub one_reached : (r q : ℕ) → ev.reached img accepted text r q ≡ other.reached img accepted text r q
  one_reached r q =
      same_test (ev.reached img accepted text r q) (other.reached img accepted text r q)
      (Reached img text (record { rule = r; position = q }))
      (ev.reached_is img accepted text r q)
      (other.reached_is img accepted text r q)

  pub one_rows : ev.rows img accepted text ≡ other.rows img accepted text
  one_rows =
      let e = (start_exists img accepted text).evaluated in ev.rows_are img accepted text e ∙ sym (other.rows_are img accepted text e)
