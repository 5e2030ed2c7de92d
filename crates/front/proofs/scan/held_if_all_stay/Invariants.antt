use Rattle.front.proofs.ScanLaw.{Seen}
use Rattle.front.proofs.scan.held_if_all_stay.Given as goal

abbrev pub invariant-loop-word : goal.invariant-loop-word
invariant-loop-word l = Seen l.part l.any l.all l.held l.word-index
