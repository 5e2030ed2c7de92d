use denote.Param.{number}
use Rattle.back.specs.contracts.carry_in.{UP-type}
use Rattle.back.proofs.Turns.{SoFar}
use Rattle.back.proofs.carry_in.Given as goal

abbrev pub invariant-loop-i : goal.invariant-loop-i
invariant-loop-i g l = SoFar (UP-type (number g.row.UP)) l.initial.part l.part l.from l.to l.count l.i l.c
