-- Theorem `outcome_says`: the outcome as a function is the paper's. Assumes nothing.
use Rattle.std.proofs.Common.{◌≡◌, Bool, true, false, eqb, refl, arith, eqb-true}
use borrow.Author.Tests.{eqb-false}
use Rattle.reading.specs.Plain.{Says, outcome_of, OutcomeSays}

pub outcome_says : OutcomeSays
outcome_says n z h = go z.matched refl (eqb z.length n) refl
  where
    go : (m : Bool) → z.matched ≡ m → (b : Bool) → eqb z.length n ≡ b → Says (outcome_of m b) n z
    go false e b f = e
    go true e true f = (e, eqb-true z.length n f)
    go true e false f = let ne = eqb-false z.length n f in (e, omega (arith, ne))
