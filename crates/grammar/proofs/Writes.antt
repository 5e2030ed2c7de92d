-- A list after one write, and a list of one value. Assumes nothing.
use Prim.Native.Nat.{ℕ, zero, suc, ◌+◌, ◌<◌}
use native.Mathlib.Omega.{arith}
use mathlib.Core.Path.{◌≡◌, refl, ◌∙◌}
use mathlib.Core.Bool.{Bool, true, false}
use mathlib.Core.List.{List}
use lib.ListN.{length, get_or, set, replicate}
use lib.Seq.{get_or-set_same, get_or-set_other}
use lib.Dec.{eqb}
use borrow.Author.Tests.{eqb-true, eqb-false}

module _ {A : Type 0} where
  -- What holds of v at n, and of every element where it stands, holds of every element after v is written at n.
  pub after_write :
      (P : ℕ → A → Type 0) (xs : List A) (n : ℕ) (v d : A)
      → n < length xs
      → P n v
      → ((k : ℕ) → P k (get_or xs k d))
      → (k : ℕ) → P k (get_or (set xs n v) k d)
  after_write P xs n v d l p q k = go (eqb k n) refl
    where
      go : (b : Bool) → eqb k n ≡ b → P k (get_or (set xs n v) k d)
      go true e = rw (eqb-true k n e, get_or-set_same xs n v d l) p
      go false e = rw (get_or-set_other xs n k v d (eqb-false k n e)) (q k)

  pub all_the_same : (m n : ℕ) (a : A) → get_or (replicate m a) n a ≡ a
  all_the_same zero n a = refl
  all_the_same (suc m) zero a = refl
  all_the_same (suc m) (suc n) a = all_the_same m n a

-- A list that is filled from its start by a rule f, with its next place written.
pub next_written :
    (f : ℕ → ℕ) (xs : List ℕ) (i v : ℕ)
    → i < length xs
    → v ≡ f i
    → ((k : ℕ) → k < i → get_or xs k 0 ≡ f k)
    → (k : ℕ) → k < i + 1 → get_or (set xs i v) k 0 ≡ f k
next_written f xs i v l e h k b = go (eqb k i) refl
  where
    go : (t : Bool) → eqb k i ≡ t → get_or (set xs i v) k 0 ≡ f k
    go true d = rw (eqb-true k i d) (get_or-set_same xs i v 0 l ∙ e)
    go false d =
        let other = eqb-false k i d in
        get_or-set_other xs i k v 0 other ∙ h k (omega (arith, other))
