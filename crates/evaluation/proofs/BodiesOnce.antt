-- The pairs whose body is evaluated depend on the subject and the position only: any two derivations of an evaluation have the same
-- list of them. Assumes nothing.
use Prim.Native.Nat.{ℕ, ◌+◌}
use native.Mathlib.Omega.{arith}
use mathlib.Core.Path.{◌≡◌, refl, sym, ap, ◌∙◌, subst}
use mathlib.Core.Bool.{true, false, true≢false}
use mathlib.Core.List.{List, ◌∷◌}
use Rattle.grammar.specs.declared.Evaluation.{Evaluation}
use Rattle.grammar.specs.Evaluates.{Evaluates, Subject, CallAnswer, by_body, by_record}
use Rattle.grammar.specs.Evaluates.{ev_empty, ev_terminal, ev_then_first_fails, ev_then, ev_else_first, ev_else_second}
use Rattle.grammar.specs.Evaluates.{ev_star, ev_last_round, ev_round, ev_not, ev_call, ev_body, ev_record}
use Rattle.grammar.proofs.Determinism.{one, no_record}
use Rattle.evaluation.specs.Calls.{Pair, bodies_of}
use Rattle.evaluation.proofs.Pairs.{one_by_one}

module _ (img text : List ℕ) (answers : ℕ → ℕ → CallAnswer) where
  -- Two evaluations at one position, however it is written.
  same :
      {s : Subject} {p q : ℕ} {y z : Evaluation} → p ≡ q → Evaluates img text answers s p y
      → Evaluates img text answers s q z → y ≡ z
  same {s} {z = z} e u v = one img text answers u (subst (λ (k : ℕ). Evaluates img text answers s k z) (sym e) v)

  after :
      {s : Subject} {p q : ℕ} {x y : Evaluation} → p ≡ q → Evaluates img text answers s p x → Evaluates img text answers s q y
      → p + x.length ≡ q + y.length
  after e u v = let k = ap (λ (w : Evaluation). w.length) (same e u v) in omega arith

  clash :
      {s : Subject} {p q : ℕ} {x y : Evaluation} → p ≡ q → Evaluates img text answers s p x → Evaluates img text answers s q y
      → x.matched ≡ true → y.matched ≡ false → ⊥
  clash e u v m n = true≢false (sym m ∙ ap (λ (w : Evaluation). w.matched) (same e u v) ∙ n)

  mixed : {r p q : ℕ} {x : Evaluation} → p ≡ q → answers r p ≡ by_body → answers r q ≡ by_record x → ⊥
  mixed {r} e a b = no_record (sym a ∙ ap (answers r) e ∙ b)

  bodies_at :
      {s : Subject} {p q : ℕ} {y z : Evaluation} → p ≡ q
      → (u : Evaluates img text answers s p y) (v : Evaluates img text answers s q z)
      → bodies_of u ≡ bodies_of v
  unfolding bodies_of
  bodies_at h (ev_empty e) (ev_empty f) = refl
  bodies_at h (ev_terminal e) (ev_terminal f) = refl
  bodies_at h (ev_then_first_fails a m e) (ev_then_first_fails a' m' f) = bodies_at h a a'
  bodies_at h (ev_then_first_fails a m e) (ev_then a' m' b' f) = absurd (clash (sym h) a' a m' m)
  bodies_at h (ev_then a m b e) (ev_then_first_fails a' m' f) = absurd (clash h a a' m m')
  bodies_at h (ev_then a m b e) (ev_then a' m' b' f) = one_by_one (bodies_at h a a') (bodies_at (after h a a') b b')
  bodies_at h (ev_else_first a m e) (ev_else_first a' m' f) = bodies_at h a a'
  bodies_at h (ev_else_first a m e) (ev_else_second a' m' b' f) = absurd (clash h a a' m m')
  bodies_at h (ev_else_second a m b e) (ev_else_first a' m' f) = absurd (clash (sym h) a' a m' m)
  bodies_at h (ev_else_second a m b e) (ev_else_second a' m' b' f) = one_by_one (bodies_at h a a') (bodies_at h b b')
  bodies_at h (ev_star a e) (ev_star a' f) = bodies_at h a a'
  bodies_at h (ev_last_round a m e) (ev_last_round a' m' f) = bodies_at h a a'
  bodies_at h (ev_last_round a m e) (ev_round a' m' b' f) = absurd (clash (sym h) a' a m' m)
  bodies_at h (ev_round a m b e) (ev_last_round a' m' f) = absurd (clash h a a' m m')
  bodies_at h (ev_round a m b e) (ev_round a' m' b' f) = one_by_one (bodies_at h a a') (bodies_at (after h a a') b b')
  bodies_at h (ev_not a e) (ev_not a' f) = bodies_at h a a'
  bodies_at h (ev_call a e) (ev_call a' f) = bodies_at h a a'
  bodies_at {p = p} {q = q} h (ev_body {r} k a) (ev_body k' a') =
      ap (λ (j : ℕ). record { rule = r; position = j } ∷ bodies_of a) h
      ∙ ap (λ (l : List Pair). record { rule = r; position = q } ∷ l) (bodies_at h a a')
  bodies_at h (ev_body k a) (ev_record k') = absurd (mixed h k k')
  bodies_at h (ev_record k) (ev_body k' a') = absurd (mixed (sym h) k' k)
  bodies_at h (ev_record k) (ev_record k') = refl

  pub bodies_once :
      {s : Subject} {p : ℕ} {y z : Evaluation} (u : Evaluates img text answers s p y) (v : Evaluates img text answers s p z)
      → bodies_of u ≡ bodies_of v
  bodies_once u v = bodies_at refl u v
