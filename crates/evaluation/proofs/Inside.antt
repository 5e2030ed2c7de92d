-- What is made inside an evaluation without records. Assumes nothing.
--     nesting_is     the nesting is 1 + the largest nesting among the evaluations made inside; of a star's rounds it is that largest
--     made_inside    each is at the position or behind, examines nothing more, and is less deep; one of a star's rounds is no deeper
use Prim.Native.Nat.{ℕ, ◌+◌, ◌≤◌}
use native.Mathlib.Omega.{arith}
use mathlib.Core.Path.{◌≡◌, ◌∙◌}
use mathlib.Core.List.{List, [], ◌∷◌}
use lib.ListN.{length}
use Rattle.grammar.specs.declared.Evaluation.{Evaluation}
use Rattle.grammar.specs.Evaluates.{Fresh, Subject}
use Rattle.grammar.specs.Evaluates.{ev_empty, ev_terminal, ev_then_first_fails, ev_then, ev_else_first, ev_else_second}
use Rattle.grammar.specs.Evaluates.{ev_star, ev_last_round, ev_round, ev_not, ev_call, ev_body, ev_record}
use Rattle.grammar.proofs.Terminals.{shape}
use Rattle.grammar.proofs.Determinism.{no_record}
use Rattle.evaluation.specs.Inside.{Inside, inside_of, deepest, level_of}
use Rattle.evaluation.proofs.Plain.{fresh_within}
use Rattle.evaluation.proofs.Locality.{seen, nested}

module _ {img text : List ℕ} where
  pub nesting_is :
      {s : Subject} {p : ℕ} {z : Evaluation} (u : Fresh img text s p z)
      → p ≤ length text
      → z.nesting ≡ level_of s + deepest (inside_of u)
  unfolding inside_of deepest
  nesting_is (ev_empty e) h = nested e
  nesting_is {p = p} (ev_terminal {t} e) h = nested e ∙ (shape t text p h).flat
  nesting_is (ev_then_first_fails u m e) h = let k = nested e in omega arith
  nesting_is (ev_then u m v e) h = let k = nested e in omega arith
  nesting_is (ev_else_first u m e) h = let k = nested e in omega arith
  nesting_is (ev_else_second u m v e) h = let k = nested e in omega arith
  nesting_is (ev_star u e) h = let k = nested e in let r = nesting_is u h in omega arith
  nesting_is (ev_last_round u m e) h = let k = nested e in omega arith
  nesting_is (ev_round u m v e) h = let k = nested e in let r = nesting_is v (fresh_within u h).in_text in omega arith
  nesting_is (ev_not u e) h = let k = nested e in omega arith
  nesting_is (ev_call u e) h = let k = nested e in omega arith
  nesting_is (ev_body q u) h = nesting_is u h
  nesting_is (ev_record q) h = absurd (no_record q)

-- What is made inside an evaluation z at p: it is at p or behind, examines nothing that z does not, and with the level added it is no deeper
-- than z.
pub record MadeInside (p : ℕ) (z : Evaluation) (level : ℕ) (i : Inside) : Type 0 where
  pub behind : p ≤ i.position
  pub examined_too : i.position + i.value.examined ≤ p + z.examined
  pub less_deep : level + i.value.nesting ≤ z.nesting

-- It holds of each.
pub data Every (P : Inside → Type 0) : List Inside → Type 0 where
  none : Every P []
  one_more : {i : Inside} {is : List Inside} → P i → Every P is → Every P (i ∷ is)

-- What holds of each and implies something, that holds of each.
carried : {P Q : Inside → Type 0} {is : List Inside} → ((i : Inside) → P i → Q i) → Every P is → Every Q is
carried f none = none
carried f (one_more {i} x xs) = one_more (f i x) (carried f xs)

inside :
    (q : ℕ) (x : Evaluation) {p level : ℕ} {z : Evaluation}
    → p ≤ q
    → q + x.examined ≤ p + z.examined
    → level + x.nesting ≤ z.nesting
    → MadeInside p z level (record { position = q; value = x })
inside q x a b c = record { behind = a; examined_too = b; less_deep = c }

module _ {img text : List ℕ} where
  pub made_inside :
      {s : Subject} {p : ℕ} {z : Evaluation} (u : Fresh img text s p z) → Every (MadeInside p z (level_of s)) (inside_of u)
  unfolding inside_of
  made_inside (ev_empty e) = none
  made_inside (ev_terminal e) = none
  made_inside {p = p} (ev_then_first_fails {x = x} u m e) =
      let n = nested e in
      let k = seen e in
      one_more (inside p x (omega arith) (omega arith) (omega arith)) none
  made_inside {p = p} (ev_then {x = x} {y = y} u m v e) =
      let n = nested e in
      let k = seen e in
      one_more (inside p x (omega arith) (omega arith) (omega arith))
      (one_more (inside (p + x.length) y (omega arith) (omega arith) (omega arith)) none)
  made_inside {p = p} (ev_else_first {x = x} u m e) =
      let n = nested e in
      let k = seen e in
      one_more (inside p x (omega arith) (omega arith) (omega arith)) none
  made_inside {p = p} (ev_else_second {x = x} {y = y} u m v e) =
      let n = nested e in
      let k = seen e in
      one_more (inside p x (omega arith) (omega arith) (omega arith))
      (one_more (inside p y (omega arith) (omega arith) (omega arith)) none)
  made_inside (ev_star u e) =
      let n = nested e in
      let k = seen e in
      carried
      (λ i t.
      record { behind = t.behind; examined_too = omega (arith, t.examined_too); less_deep = omega (arith, t.less_deep) })
      (made_inside u)
  made_inside {p = p} (ev_last_round {x = x} u m e) =
      let n = nested e in
      let k = seen e in
      one_more (inside p x (omega arith) (omega arith) (omega arith)) none
  made_inside {p = p} (ev_round {x = x} u m v e) =
      let n = nested e in
      let k = seen e in
      one_more (inside p x (omega arith) (omega arith) (omega arith))
      (carried
      (λ i t.
      record { behind = omega (arith, t.behind); examined_too = omega (arith, t.examined_too); less_deep = omega (arith, t.less_deep) })
      (made_inside v))
  made_inside {p = p} (ev_not {x = x} u e) =
      let n = nested e in
      let k = seen e in
      one_more (inside p x (omega arith) (omega arith) (omega arith)) none
  made_inside {p = p} (ev_call {x = x} u e) =
      let n = nested e in
      let k = seen e in
      one_more (inside p x (omega arith) (omega arith) (omega arith)) none
  made_inside (ev_body q u) = made_inside u
  made_inside (ev_record q) = none
