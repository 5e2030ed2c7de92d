use Rattle.records.specs.Words.{matched_of}
use borrow.Author.Rules.{rules}
use Rattle.records.proofs.matched_of.Goals as goal

pub returns : goal.returns
unfolding matched_of
returns c = search rules
