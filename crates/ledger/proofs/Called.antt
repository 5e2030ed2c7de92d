-- The pairs called in an evaluation without records, and pairs that are shifted. Assumes nothing.
--     called_within             each called pair has an evaluation that examines no more of the text than the whole does
--     in_shifted, shifted_in    a pair is among shifted pairs exactly where it is one of them, shifted
use Prim.Native.Nat.{ℕ, ◌+◌, ◌≤◌}
use native.Mathlib.Omega.{arith}
use mathlib.Core.Path.{◌≡◌, refl}
use mathlib.Core.List.{List, [], ◌∷◌, map}
use mathlib.Core.Logic.{◌⊎◌, inl, inr, ⊎_elim}
use Rattle.grammar.specs.declared.Evaluation.{Evaluation}
use Rattle.grammar.specs.Evaluates.{Fresh, Subject, a_pair}
use Rattle.grammar.specs.Evaluates.{ev_empty, ev_terminal, ev_then_first_fails, ev_then, ev_else_first, ev_else_second}
use Rattle.grammar.specs.Evaluates.{ev_star, ev_last_round, ev_round, ev_not, ev_call, ev_body, ev_record}
use Rattle.grammar.proofs.Determinism.{no_record}
use Rattle.evaluation.specs.Calls.{Pair, In, here, later, calls_of}
use Rattle.evaluation.proofs.Pairs.{none_in, in_either}
use Rattle.evaluation.proofs.Locality.{seen}
use Rattle.evaluation.proofs.CallLocality.{shifted}

-- A pair with an evaluation that examines nothing from `end` on.
pub record CalledWithin (img text : List ℕ) (y : Pair) (end : ℕ) : Type 0 where
  pub value : Evaluation
  pub evaluated : Fresh img text (a_pair y.rule) y.position value
  pub within : y.position + value.examined ≤ end

module _ {img text : List ℕ} where
  raised : {y : Pair} {a b : ℕ} → CalledWithin img text y a → a ≤ b → CalledWithin img text y b
  raised c h = record { value = c.value; evaluated = c.evaluated; within = omega (arith, c.within) }

  pub called_within :
      {s : Subject} {p : ℕ} {z : Evaluation} {y : Pair} (u : Fresh img text s p z)
      → In y (calls_of u)
      → CalledWithin img text y (p + z.examined)
  unfolding calls_of
  called_within (ev_empty e) i = absurd (none_in i)
  called_within (ev_terminal e) i = absurd (none_in i)
  called_within (ev_then_first_fails u m e) i = raised (called_within u i) (let k = seen e in omega arith)
  called_within (ev_then u m v e) i =
      ⊎_elim (λ j. raised (called_within u j) (let k = seen e in omega arith))
      (λ j. raised (called_within v j) (let k = seen e in omega arith))
      (in_either (calls_of u) (calls_of v) i)
  called_within (ev_else_first u m e) i = raised (called_within u i) (let k = seen e in omega arith)
  called_within (ev_else_second u m v e) i =
      ⊎_elim (λ j. raised (called_within u j) (let k = seen e in omega arith))
      (λ j. raised (called_within v j) (let k = seen e in omega arith))
      (in_either (calls_of u) (calls_of v) i)
  called_within (ev_star u e) i = raised (called_within u i) (let k = seen e in omega arith)
  called_within (ev_last_round u m e) i = raised (called_within u i) (let k = seen e in omega arith)
  called_within (ev_round u m v e) i =
      ⊎_elim (λ j. raised (called_within u j) (let k = seen e in omega arith))
      (λ j. raised (called_within v j) (let k = seen e in omega arith))
      (in_either (calls_of u) (calls_of v) i)
  called_within (ev_not u e) i = raised (called_within u i) (let k = seen e in omega arith)
  called_within (ev_call {x = x} u e) here = record { value = x; evaluated = u; within = let k = seen e in omega arith }
  called_within (ev_call u e) (later i) = absurd (none_in i)
  called_within (ev_body q u) i = called_within u i
  called_within (ev_record q) i = absurd (no_record q)

-- A pair among shifted pairs is one of them, shifted.
pub record Shifted (k : ℕ) (y : Pair) (ps : List Pair) : Type 0 where
  pub pair : Pair
  pub among : In pair ps
  pub is : y ≡ shifted k pair

pub in_shifted : (k : ℕ) {y : Pair} (ps : List Pair) → In y (map (shifted k) ps) → Shifted k y ps
in_shifted k [] i = absurd (none_in i)
in_shifted k (x ∷ ps) i =
    ⊎_elim (λ e. record { pair = x; among = here; is = e })
    (λ i.
    let t = in_shifted k ps i in
    record { pair = t.pair; among = later t.among; is = t.is })
    (first_or_later i)
  where
    first_or_later : {y z : Pair} {zs : List Pair} → In y (z ∷ zs) → (y ≡ z) ⊎ In y zs
    first_or_later here = inl refl
    first_or_later (later i) = inr i

pub shifted_in : (k : ℕ) {x : Pair} {ps : List Pair} → In x ps → In (shifted k x) (map (shifted k) ps)
shifted_in k here = here
shifted_in k (later i) = later (shifted_in k i)
