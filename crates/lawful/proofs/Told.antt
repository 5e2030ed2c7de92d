-- What a function that answers a bool has told. After `if !f(..)`: where the branch is taken f said no, where it is not f said yes.
-- Assumes nothing.
use Rattle.std.proofs.Common.{◌≡◌, ◌↔◌, Bool, true, false, IsTrue, sym, ◌∙◌}
use mathlib.Core.Bool.{true≢false}

module _ {b : Bool} {P : Type 0} (t : IsTrue b ↔ P) where
  pub said_no : b ≡ false → P → ⊥
  said_no e p = true≢false (sym (t.1 p) ∙ e)

  pub said_yes : b ≡ true → P
  said_yes e = t.0 e
