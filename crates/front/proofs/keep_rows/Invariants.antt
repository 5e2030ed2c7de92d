use Prim.Native.Nat.{◌*◌}
use Rattle.front.specs.Front.{KeptRows}
use Rattle.front.proofs.keep_rows.Given as goal

abbrev pub invariant-loop-row : goal.invariant-loop-row
invariant-loop-row l = KeptRows l.rules l.s 0 l.initial.part l.part (l.row * l.rules) l.c
