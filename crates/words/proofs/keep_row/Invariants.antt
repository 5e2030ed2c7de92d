use Rattle.buffers.specs.Filled.{at}
use Rattle.editing.specs.Held.{kept_word}
use Rattle.words.specs.Counted.{Counted}
use Rattle.words.proofs.keep_row.Given as goal

abbrev pub invariant-loop-word : goal.invariant-loop-word
invariant-loop-word l =
    Counted
    (λ j. kept_word l.limit (at l.initial.row j))
    l.initial.row
    l.row
    0
    l.word-index
    (λ j. kept_word l.limit (at l.initial.row j))
    l.word-index
    l.c
