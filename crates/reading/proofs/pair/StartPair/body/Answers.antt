use Rattle.std.proofs.Common.{rules, ℕ, List, subst}
use Rattle.packrat.specs.Session.{BodyOver}
use Rattle.packrat.proofs.LoadedRuns.{body_given}
use Rattle.reading.proofs.pair.StartPair.body.Goals as goal

pub returns-clause-body : goal.returns-clause-body
returns-clause-body c =
    let pair = c.args.self.now in
    let answer = c.eval_word-answer in
    subst (λ (table : List ℕ). BodyOver pair.image.now pair.text.now pair.table.now pair.count answer.result table answer.new.self.count) (search rules)
    (body_given pair.image.now pair.text.now c.load-grammar.ensures pair.table.now pair.count answer.ensures.gives)
