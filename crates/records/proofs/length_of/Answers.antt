use Rattle.records.specs.Words.{length_of}
use native.Mathlib.Omega.{arith}
use Rattle.records.proofs.length_of.Goals as goal

pub returns : goal.returns
unfolding length_of
returns c = omega arith
