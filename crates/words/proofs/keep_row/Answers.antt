-- `keep_row` meets its contract: the first words are kept or zeroed, and c of them are held. Assumes nothing.
use native.Mathlib.Omega.{arith}
use Rattle.buffers.specs.Filled.{at}
use Rattle.editing.specs.Held.{kept_word}
use Rattle.editing.proofs.Held.{held_most}
use Rattle.words.proofs.keep_row.Goals as goal

pub overflow_add-c : goal.overflow_add-c
overflow_add-c c =
    omega (arith, c.loop-word.invariant.counted, held_most (λ j. kept_word c.args.limit (at c.args.row.now j)) c.loop-word.word-index)
