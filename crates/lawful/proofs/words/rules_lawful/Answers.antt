use Rattle.std.proofs.Common.{rules}
use Rattle.lawful.proofs.All.{told_below}
use Rattle.lawful.proofs.words.rules_lawful.Goals as goal

pub returns : goal.returns
returns c = told_below _ _ _ _ _ (cc) c.all.ensures.ran (λ x b q k. search rules)
