-- A byte between two others, as a test and as bounds. Assumes nothing.
use Prim.Native.Nat.{ℕ, ◌≤◌}
use borrow.Author.Tests.{leb-true, le-leb}
use mathlib.Core.Path.{◌≡◌, refl}
use mathlib.Core.Bool.{Bool, true, false}
use lib.Dec.{leb}
use Rattle.grammar.proofs.Bools.{both, joined}
use Rattle.grammar.specs.Between.{between}

module _ (from to byte : ℕ) where
  pub bounds : between from to byte ≡ true → (from ≤ byte) × (byte ≤ to)
  bounds e = let t = both (leb from byte) (leb byte to) e in (leb-true from byte t.0, leb-true byte to t.1)

  pub inside : from ≤ byte → byte ≤ to → between from to byte ≡ true
  inside h k = joined (le-leb from byte h) (le-leb byte to k)

  pub outside : (from ≤ byte → byte ≤ to → ⊥) → between from to byte ≡ false
  outside n = go (between from to byte) refl
    where
      go : (b : Bool) → between from to byte ≡ b → between from to byte ≡ false
      go true e = let t = bounds e in absurd (n t.0 t.1)
      go false e = e
