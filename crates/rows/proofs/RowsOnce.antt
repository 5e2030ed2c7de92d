-- The rows depend on the subject, the position and the rows around it only: any two derivations of an evaluation have the same rows.
-- Assumes nothing.
use Prim.Native.Nat.{ℕ, ◌+◌}
use native.Mathlib.Omega.{arith}
use mathlib.Core.Path.{◌≡◌, refl, sym, ap, ◌∙◌, subst}
use mathlib.Core.Bool.{Bool, true, false, true≢false}
use mathlib.Core.List.{List, ◌∷◌, ◌++◌}
use Rattle.grammar.specs.declared.Evaluation.{Evaluation}
use Rattle.grammar.specs.Evaluates.{Fresh, Subject, bodies_only}
use Rattle.grammar.specs.Evaluates.{ev_empty, ev_terminal, ev_then_first_fails, ev_then, ev_else_first, ev_else_second}
use Rattle.grammar.specs.Evaluates.{ev_star, ev_last_round, ev_round, ev_not, ev_call, ev_body, ev_record}
use Rattle.grammar.proofs.Determinism.{one, no_record}
use Rattle.rows.specs.Rows.{Row, if_matched, rows_of}

both_same : {us vs xs ys : List Row} → us ≡ xs → vs ≡ ys → us ++ vs ≡ xs ++ ys
both_same {vs = vs} {xs = xs} a b = ap (λ (l : List Row). l ++ vs) a ∙ ap (λ (l : List Row). xs ++ l) b

if_same : {a b : Bool} {xs ys : List Row} → a ≡ b → xs ≡ ys → if_matched a xs ≡ if_matched b ys
if_same {b = b} {xs = xs} e f = ap (λ (k : Bool). if_matched k xs) e ∙ ap (if_matched b) f

row_same :
    {r k p q l m : ℕ} → p ≡ q → l ≡ m
    → ◌≡◌ {A = Row} (record { rule = r; depth = k; start = p; length = l }) (record { rule = r; depth = k; start = q; length = m })
row_same {r} {k} e f = λ i. record { rule = r; depth = k; start = e i; length = f i }

cons_same : {x y : Row} {xs ys : List Row} → x ≡ y → xs ≡ ys → x ∷ xs ≡ y ∷ ys
cons_same {y = y} {xs = xs} e f = ap (λ (r : Row). r ∷ xs) e ∙ ap (λ (l : List Row). y ∷ l) f

module _ (img text : List ℕ) where
  -- Two evaluations at one position, however it is written.
  same : {s : Subject} {p q : ℕ} {y z : Evaluation} → p ≡ q → Fresh img text s p y → Fresh img text s q z → y ≡ z
  same {s} {z = z} e u v = one img text bodies_only u (subst (λ (k : ℕ). Fresh img text s k z) (sym e) v)

  ends :
      {s : Subject} {p q : ℕ} {x y : Evaluation} → p ≡ q → Fresh img text s p x → Fresh img text s q y
      → p + x.length ≡ q + y.length
  ends e u v = let k = ap (λ (w : Evaluation). w.length) (same e u v) in omega arith

  clash :
      {s : Subject} {p q : ℕ} {x y : Evaluation} → p ≡ q → Fresh img text s p x → Fresh img text s q y
      → x.matched ≡ true → y.matched ≡ false → ⊥
  clash e u v m n = true≢false (sym m ∙ ap (λ (w : Evaluation). w.matched) (same e u v) ∙ n)

  matches : {s : Subject} {p q : ℕ} {x y : Evaluation} → p ≡ q → Fresh img text s p x → Fresh img text s q y → x.matched ≡ y.matched
  matches e u v = ap (λ (w : Evaluation). w.matched) (same e u v)

  rows_at :
      {s : Subject} {p q : ℕ} {y z : Evaluation} → p ≡ q → (u : Fresh img text s p y) (v : Fresh img text s q z) (k : ℕ)
      → rows_of u k ≡ rows_of v k
  unfolding rows_of
  rows_at h (ev_empty e) (ev_empty f) k = refl
  rows_at h (ev_terminal e) (ev_terminal f) k = refl
  rows_at h (ev_then_first_fails a m e) (ev_then_first_fails a' m' f) k = refl
  rows_at h (ev_then_first_fails a m e) (ev_then a' m' b' f) k = absurd (clash (sym h) a' a m' m)
  rows_at h (ev_then a m b e) (ev_then_first_fails a' m' f) k = absurd (clash h a a' m m')
  rows_at h (ev_then a m b e) (ev_then a' m' b' f) k =
      let g = ends h a a' in
      if_same (matches g b b') (both_same (rows_at h a a' k) (rows_at g b b' k))
  rows_at h (ev_else_first a m e) (ev_else_first a' m' f) k = rows_at h a a' k
  rows_at h (ev_else_first a m e) (ev_else_second a' m' b' f) k = absurd (clash h a a' m m')
  rows_at h (ev_else_second a m b e) (ev_else_first a' m' f) k = absurd (clash (sym h) a' a m' m)
  rows_at h (ev_else_second a m b e) (ev_else_second a' m' b' f) k = rows_at h b b' k
  rows_at h (ev_star a e) (ev_star a' f) k = rows_at h a a' k
  rows_at h (ev_last_round a m e) (ev_last_round a' m' f) k = refl
  rows_at h (ev_last_round a m e) (ev_round a' m' b' f) k = absurd (clash (sym h) a' a m' m)
  rows_at h (ev_round a m b e) (ev_last_round a' m' f) k = absurd (clash h a a' m m')
  rows_at h (ev_round a m b e) (ev_round a' m' b' f) k = both_same (rows_at h a a' k) (rows_at (ends h a a') b b' k)
  rows_at h (ev_not a e) (ev_not a' f) k = refl
  rows_at h (ev_call a e) (ev_call a' f) k = rows_at h a a' k
  rows_at h (ev_body j a) (ev_body j' a') k =
      let g = same h a a' in
      if_same (ap (λ (w : Evaluation). w.matched) g)
      (cons_same (row_same h (ap (λ (w : Evaluation). w.length) g)) (rows_at h a a' (k + 1)))
  rows_at h (ev_body j a) (ev_record j') k = absurd (no_record j')
  rows_at h (ev_record j) v k = absurd (no_record j)

  pub rows_once :
      {s : Subject} {p : ℕ} {y z : Evaluation} (u : Fresh img text s p y) (v : Fresh img text s p z) (k : ℕ)
      → rows_of u k ≡ rows_of v k
  rows_once u v k = rows_at refl u v k
