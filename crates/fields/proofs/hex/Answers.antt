-- `fields::hex` meets its contract: a pair that means a byte is two digits. Assumes nothing.
use Rattle.std.proofs.Common.{arith, rules}
use Rattle.fields.proofs.Hexadecimal.{next, of_pair, of_digits}
use Rattle.fields.proofs.hex.Goals as goal

pub loop-i-preserved : goal.loop-i-preserved
loop-i-preserved c =
    let d = of_digits c.args.field.now c.byte_of.result c.as_chunks.ensures.front (omega arith) c.byte_of.ensures in
    let h = of_pair c.byte_of.result d c.in_ok-given.ensures.ok_part in
    next c.loop-i.invariant (omega arith) h.0.0 h.0.1 h.1

pub returns-in_err-given-clause-hex : goal.returns-in_err-given-clause-hex
returns-in_err-given-clause-hex c =
    let d = of_digits c.args.field.now c.byte_of.result c.as_chunks.ensures.front (omega arith) c.byte_of.ensures in
    search (rules, d)
