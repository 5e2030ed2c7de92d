-- The weight of a list: the sum of what its elements weigh. A write changes it by the difference, and it is bounded.
-- Assumes nothing.
use Prim.Native.Nat.{ℕ, zero, suc, ◌+◌, ◌*◌, ◌≤◌, ◌<◌}
use native.Mathlib.Omega.{arith}
use native.Mathlib.Nat.{mul-suc}
use mathlib.Core.Path.{◌≡◌}
use mathlib.Core.List.{List, [], ◌∷◌}
use lib.ListN.{length, get_or, set}

module _ {A : Type 0} (f : A → ℕ) where
  unfoldable pub weight_by : List A → ℕ
  weight_by [] = 0
  weight_by (x ∷ xs) = f x + weight_by xs

  pub weight_set :
      (xs : List A) (i : ℕ) (v d : A) → i < length xs → weight_by (set xs i v) + f (get_or xs i d) ≡ weight_by xs + f v
  unfolding weight_by
  weight_set [] i v d h = absurd (omega arith)
  weight_set (x ∷ xs) zero v d h = omega arith
  weight_set (x ∷ xs) (suc i) v d h = let ih = weight_set xs i v d (omega arith) in omega arith

  -- Where the first c elements weigh m at most, and the others nothing.
  pub weight_most :
      (m c : ℕ) (xs : List A) (d : A)
      → ((k : ℕ) → f (get_or xs k d) ≤ m)
      → ((k : ℕ) → c ≤ k → f (get_or xs k d) ≡ 0)
      → weight_by xs ≤ m * c
  unfolding weight_by
  weight_most m c [] d h z = omega arith
  weight_most m zero (x ∷ xs) d h z =
      let ih = weight_most m zero xs d (λ k. h (suc k)) (λ k l. z (suc k) (omega arith)) in
      omega (arith, z 0 (omega arith))
  weight_most m (suc c) (x ∷ xs) d h z =
      let ih = weight_most m c xs d (λ k. h (suc k)) (λ k l. z (suc k) (omega arith)) in
      rw mul-suc (omega (arith, h 0))
