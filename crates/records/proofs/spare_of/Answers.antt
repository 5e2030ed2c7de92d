use Rattle.records.specs.Words.{spare_of}
use borrow.Author.Rules.{rules}
use Rattle.records.proofs.spare_of.Goals as goal

pub returns : goal.returns
unfolding spare_of
returns c = search rules
