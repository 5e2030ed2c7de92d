use Rattle.std.proofs.Common.{Ok, sym, ap, ◌∙◌, ◌≤◌, length, arith}
use Rattle.grammar.specs.declared.Evaluation.{Evaluation}
use Rattle.reading.specs.declared.plain.Reading.{Reading}
use Rattle.packrat.proofs.Gives.{found, says}
use Rattle.promises.specs.Answers.{sheet_reading}
use Rattle.promises.specs.Run.{answer_of}
use Rattle.sheet.proofs.making.make_reading.Goals as goal

pub returns-in-Ok-clause-answer : goal.returns-in-Ok-clause-answer
returns-in-Ok-clause-answer c =
    let n = length c.args.text.now in
    let count = c.word.new.self.count in
    let short : n ≤ 65535 = omega (arith, c.requires.loan.short, c.requires.loan.text_fits) in
    let f = found short (omega arith) c.in-Ok.ensures.word in
    ap
    (λ (r : Reading).
    Ok
    (record {
      outcome = r.outcome;
      length = r.length;
      examined = r.examined;
      nesting = r.nesting;
      evaluations = count;
    }))
    c.reading_of-found.ensures
    ∙ ap (λ (z : Evaluation). Ok (sheet_reading n z count)) (says short (omega arith) f)
    ∙ sym (ap (answer_of n) f.is)
