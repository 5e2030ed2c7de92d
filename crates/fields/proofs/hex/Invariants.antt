-- Before the pair i all are digits, and their bytes are put at the start.
use Rattle.std.proofs.Common.{length}
use Rattle.fields.proofs.Hexadecimal.{Paired}
use Rattle.fields.proofs.hex.Given as goal

abbrev pub invariant-loop-i : goal.invariant-loop-i
invariant-loop-i l = Paired l.field l.initial.given l.given (length l.pairs) l.i
