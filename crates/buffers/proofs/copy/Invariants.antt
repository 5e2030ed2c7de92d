use Rattle.buffers.specs.Filled.{Filled, at}
use Rattle.buffers.proofs.copy.Given as goal

abbrev pub invariant-loop-i : goal.invariant-loop-i
invariant-loop-i l = Filled (at l.text) l.initial.part l.part 0 l.i
