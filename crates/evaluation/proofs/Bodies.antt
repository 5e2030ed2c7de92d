-- The pairs whose body is evaluated inside an evaluation: each has an evaluation of smaller nesting, answered by its body, and what is
-- evaluated in that is evaluated here; so a pair is never evaluated inside its own body. Assumes nothing.
use Prim.Native.Nat.{ℕ, ◌+◌, ◌≤◌, ◌<◌}
use native.Mathlib.Omega.{arith}
use mathlib.Core.Path.{◌≡◌}
use mathlib.Core.List.{List, ◌∷◌, ◌++◌}
use mathlib.Core.Logic.{⊎_elim}
use Rattle.grammar.specs.declared.Evaluation.{Evaluation}
use Rattle.grammar.specs.Image.{body}
use Rattle.grammar.specs.Evaluates.{Evaluates, Subject, CallAnswer, by_body, a_node, a_pair, rounds_of}
use Rattle.grammar.specs.Evaluates.{ev_empty, ev_terminal, ev_then_first_fails, ev_then, ev_else_first, ev_else_second}
use Rattle.grammar.specs.Evaluates.{ev_star, ev_last_round, ev_round, ev_not, ev_call, ev_body, ev_record}
use Rattle.evaluation.specs.Calls.{Pair, In, here, later, bodies_of}
use Rattle.evaluation.proofs.Locality.{nested}
use Rattle.evaluation.proofs.Pairs.{none_in, in_either, in_left, in_right}

-- A pair whose body is evaluated, with a nesting below a bound, where the bodies of the pairs ps are evaluated.
pub record Ran (img text : List ℕ) (answers : ℕ → ℕ → CallAnswer) (x : Pair) (bound : ℕ) (ps : List Pair) : Type 0 where
  pub value : Evaluation
  pub by : answers x.rule x.position ≡ by_body
  pub inner : Evaluates img text answers (a_node (body img x.rule)) x.position value
  pub below : value.nesting < bound
  pub inside : (y : Pair) → In y (bodies_of inner) → In y ps

-- The bound: the evaluation's own nesting, one more for a pair and for the rounds of a star, which add none.
abbrev bound : Subject → Evaluation → ℕ
bound (a_node m) z = z.nesting
bound (a_pair r) z = z.nesting + 1
bound (rounds_of a) z = z.nesting + 1

module _ {img text : List ℕ} {answers : ℕ → ℕ → CallAnswer} where
  among :
      {x : Pair} {a b : ℕ} {ps : List Pair} (qs : List Pair) → ((y : Pair) → In y ps → In y qs) → a ≤ b → Ran img text answers x a ps
      → Ran img text answers x b qs
  among qs f h r =
      record {
        value = r.value;
        by = r.by;
        inner = r.inner;
        below = omega (arith, r.below);
        inside = λ y i. f y (r.inside y i);
      }

  raised : {x : Pair} {a b : ℕ} {ps : List Pair} → Ran img text answers x a ps → a ≤ b → Ran img text answers x b ps
  raised {ps = ps} r h = among ps (λ y i. i) h r

  -- A pair of one of two parts.
  of_parts :
      {x : Pair} {b : ℕ} (ps qs : List Pair)
      → (In x ps → Ran img text answers x b ps)
      → (In x qs → Ran img text answers x b qs)
      → In x (ps ++ qs) → Ran img text answers x b (ps ++ qs)
  of_parts ps qs f g i =
      ⊎_elim
      (λ j. among (ps ++ qs) (λ y k. in_left qs k) (omega arith) (f j))
      (λ j. among (ps ++ qs) (λ y k. in_right ps k) (omega arith) (g j))
      (in_either ps qs i)

  pub shallower :
      {s : Subject} {p : ℕ} {z : Evaluation} {x : Pair} (u : Evaluates img text answers s p z)
      → In x (bodies_of u) → Ran img text answers x (bound s z) (bodies_of u)
  unfolding bodies_of
  shallower (ev_empty e) i = absurd (none_in i)
  shallower (ev_terminal e) i = absurd (none_in i)
  shallower (ev_then_first_fails u m e) i = raised (shallower u i) (let k = nested e in omega arith)
  shallower (ev_then u m v e) i =
      of_parts (bodies_of u) (bodies_of v)
      (λ j. raised (shallower u j) (let k = nested e in omega arith))
      (λ j. raised (shallower v j) (let k = nested e in omega arith))
      i
  shallower (ev_else_first u m e) i = raised (shallower u i) (let k = nested e in omega arith)
  shallower (ev_else_second u m v e) i =
      of_parts (bodies_of u) (bodies_of v)
      (λ j. raised (shallower u j) (let k = nested e in omega arith))
      (λ j. raised (shallower v j) (let k = nested e in omega arith))
      i
  shallower (ev_star u e) i = raised (shallower u i) (let k = nested e in omega arith)
  shallower (ev_last_round u m e) i = raised (shallower u i) (let k = nested e in omega arith)
  shallower (ev_round u m v e) i =
      of_parts (bodies_of u) (bodies_of v)
      (λ j. raised (shallower u j) (let k = nested e in omega arith))
      (λ j. raised (shallower v j) (let k = nested e in omega arith))
      i
  shallower (ev_not u e) i = raised (shallower u i) (let k = nested e in omega arith)
  shallower (ev_call u e) i = raised (shallower u i) (let k = nested e in omega arith)
  shallower {z = z} (ev_body q u) here = record { value = z; by = q; inner = u; below = omega arith; inside = λ y i. later i }
  shallower {p = p} (ev_body {r} q u) (later i) =
      among (record { rule = r; position = p } ∷ bodies_of u) (λ y i. later i) (omega arith) (shallower u i)
  shallower (ev_record q) i = absurd (none_in i)
