-- The bytes that are passed are digits, and the value is their number.
use Rattle.fields.proofs.Decimals.{Passed}
use Rattle.fields.proofs.decimal.Given as goal

abbrev pub invariant-loop-byte : goal.invariant-loop-byte
invariant-loop-byte l = Passed l.field l.value l.byte-index
