use Rattle.records.specs.Words.{examined_of}
use borrow.Author.Rules.{rules}
use Rattle.records.proofs.examined_of.Goals as goal

pub returns : goal.returns
unfolding examined_of
returns c = search rules
