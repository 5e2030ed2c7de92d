-- The new length, and where a carried pair was. Assumes nothing.
use Prim.Native.Nat.{ℕ, ◌+◌, ◌-◌, ◌≤◌, ◌<◌}
use native.Mathlib.Omega.{arith}
use mathlib.Core.Path.{◌≡◌}
use Rattle.editing.specs.Text.{new_length}
use Rattle.editing.specs.Table.{came_from}

pub new_is : (n s e k : ℕ) → s ≤ e → e ≤ n → new_length n s e k ≡ s + k + (n - e)
new_is n s e k h l = omega arith

-- A position that a carried pair had is in the old text.
pub was_inside :
    (n s e k i cap : ℕ) → s + k ≤ s + i → s + i ≤ new_length n s e k → s ≤ e → e ≤ n → n ≤ cap → came_from s e k (s + i) < cap + 1
was_inside n s e k i cap x y a b l = omega arith
