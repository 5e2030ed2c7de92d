use Rattle.records.specs.Words.{nesting_of}
use borrow.Author.Rules.{rules}
use Rattle.records.proofs.nesting_of.Goals as goal

pub returns : goal.returns
unfolding nesting_of
returns c = search rules
