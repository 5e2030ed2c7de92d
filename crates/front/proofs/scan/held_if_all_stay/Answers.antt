-- `scan::held_if_all_stay` meets its contract, by the law of one turn. Assumes nothing.
use native.Mathlib.Omega.{arith}
use Rattle.buffers.specs.Filled.{at}
use Rattle.front.proofs.ScanLaw.{seen_more}
use Rattle.editing.proofs.Held.{held_most}
use Rattle.front.proofs.scan.held_if_all_stay.Goals as goal

pub overflow_add-held : goal.overflow_add-held
overflow_add-held c = omega (arith, c.loop-word.invariant.counted, held_most (at c.args.part.now) c.loop-word.word-index)

pub loop-word-preserved : goal.loop-word-preserved
loop-word-preserved c = seen_more c.loop-word.invariant (λ above low. omega arith) c.held_bit-held.ensures.0
