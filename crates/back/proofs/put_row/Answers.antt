-- `put_row` meets its contract: the first words are those of the row where it is held. Assumes nothing.
use native.Mathlib.Omega.{arith}
use Rattle.buffers.specs.Filled.{at}
use Rattle.back.proofs.Turns.{put_over}
use Rattle.editing.proofs.Held.{held_most}
use Rattle.back.proofs.put_row.Goals as goal

pub overflow_add-c : goal.overflow_add-c
overflow_add-c c = omega (arith, c.loop-rule.invariant.counted, held_most (at c.loop-rule.part) c.loop-rule.rule)

pub loop-rule-preserved : goal.loop-rule-preserved
loop-rule-preserved c =
    put_over c.loop-rule.invariant (omega arith) c.first_held-word.ensures.word c.held_bit.ensures.0 c.held_bit-in-loop-rule.ensures.0
