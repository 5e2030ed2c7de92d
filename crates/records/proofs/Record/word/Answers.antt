use Rattle.records.specs.Words.{record_word}
use mir.Val.{bool_byte}
use mathlib.Core.Path.{ap}
use native.Mathlib.Omega.{arith}
use Rattle.records.proofs.Record.word.Goals as goal

pub returns-then-self : goal.returns-then-self
unfolding record_word
returns-then-self c =
    let e = ap bool_byte c.if-self.true in
    omega (arith, e)

pub returns-else-self : goal.returns-else-self
unfolding record_word
returns-else-self c =
    let e = ap bool_byte c.if-self.false in
    omega (arith, e)
