use Prim.Native.Nat.{ℕ}
use mathlib.Core.Path.{◌≡◌, refl, ◌∙◌}
use mathlib.Core.Bool.{Bool, true, false}
use Rattle.std.specs.Bool.{then_some}
use Rattle.records.specs.Words.{value_of}
use Rattle.listing.specs.Gives.{length_or}
use Rattle.listing.proofs.bytes.told.Goals as goal

same : (matched : Bool) (length : ℕ) → then_some matched length ≡ length_or matched length
same true length = refl
same false length = refl

pub returns : goal.returns
unfolding value_of
returns c = c.then_some.ensures ∙ same _ _ ∙ (λ i. length_or (c.matched_of.ensures i) (c.length_of.ensures.0 i))
