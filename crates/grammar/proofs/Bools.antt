-- Tests made of two, and a test as a number, for the proofs of every crate. Assumes nothing.
use Prim.Native.Nat.{◌≤◌, ◌<◌}
use native.Mathlib.Omega.{arith}
use mathlib.Core.Path.{◌≡◌, refl, sym, ap}
use mathlib.Core.Bool.{Bool, true, false, ◌&&◌, ◌||◌, true≢false}
use mathlib.Core.Logic.{◌⊎◌, inl, inr}
use mir.Val.{bool_byte}
use Rattle.grammar.specs.Questions.{one_if}

pub both : (a b : Bool) → (a && b) ≡ true → (a ≡ true) × (b ≡ true)
both true b e = (refl, e)
both false b e = absurd (true≢false (sym e))

pub joined : {a b : Bool} → a ≡ true → b ≡ true → (a && b) ≡ true
joined p q = simp (p, q)

pub either : (a b : Bool) → (a || b) ≡ true → (a ≡ true) ⊎ (b ≡ true)
either true b e = inl refl
either false b e = inr e

pub or_left : (a b : Bool) → a ≡ true → (a || b) ≡ true
or_left a b e = ap (λ (c : Bool). c || b) e

pub or_right : (a b : Bool) → b ≡ true → (a || b) ≡ true
or_right true b e = refl
or_right false b e = e

pub at_most_1 : (b : Bool) → one_if b ≤ 1
at_most_1 true = omega arith
at_most_1 false = omega arith

pub byte_small : (b : Bool) → bool_byte b < 2
byte_small true = omega arith
byte_small false = omega arith
