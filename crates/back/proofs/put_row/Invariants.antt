use Rattle.back.specs.Back.{Put}
use Rattle.back.proofs.put_row.Given as goal

abbrev pub invariant-loop-rule : goal.invariant-loop-rule
invariant-loop-rule l = Put l.row l.initial.part l.part l.rule l.c
