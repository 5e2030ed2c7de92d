use Rattle.rows.specs.Rows.{row_word}
use native.Mathlib.Omega.{arith}
use Rattle.listing.proofs.slots.U64FromRow.from.Goals as goal

pub returns : goal.returns
unfolding row_word
returns c = omega arith
