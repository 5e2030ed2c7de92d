use Rattle.rounds.specs.Sets.{bit}
use borrow.Author.Rules.{rules}
use Rattle.visits.proofs.sets.has_consumes.Goals as goal

pub returns : goal.returns
unfolding bit
returns c = search rules
