use Prim.Native.Nat.{◌*◌}
use Rattle.std.proofs.Common.{length, min}
use Rattle.front.specs.Front.{KeptRows}
use Rattle.front.proofs.+keep_pieces.Given as goal

abbrev pub decreases-keep_pieces : goal.decreases-keep_pieces
decreases-keep_pieces l = length l.sizes.now

abbrev pub invariant-loop-piece : goal.invariant-loop-piece
invariant-loop-piece l = KeptRows l.rules l.s 0 l.initial.part l.part (min (l.piece * l.size) l.rows * l.rules) l.c
