-- A tabulated list: its length and its elements. Assumes nothing.
use Prim.Native.Nat.{ℕ, zero, suc, ◌<◌}
use native.Mathlib.Omega.{arith}
use mathlib.Core.Path.{◌≡◌, refl, ap}
use lib.ListN.{length}
use Rattle.buffers.specs.Filled.{at}
use Rattle.editing.specs.Table.{tabulate}

pub tabulate_long : (f : ℕ → ℕ) (n : ℕ) → length (tabulate f n) ≡ n
tabulate_long f zero = refl
tabulate_long f (suc n) = ap suc (tabulate_long (λ j. f (suc j)) n)

pub tabulate-at : (f : ℕ → ℕ) (n j : ℕ) → j < n → at (tabulate f n) j ≡ f j
tabulate-at f zero j h = absurd (omega arith)
tabulate-at f (suc n) zero h = refl
tabulate-at f (suc n) (suc j) h = tabulate-at (λ i. f (suc i)) n j (omega arith)
