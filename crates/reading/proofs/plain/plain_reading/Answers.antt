use Rattle.packrat.proofs.Start.{start_given}
use Rattle.reading.proofs.PlainReading.{start_refused, answered_reading}
use Rattle.grammar.proofs.Refusals.{left_with}
use Rattle.reading.proofs.plain.plain_reading.Goals as goal

pub returns-in_err-word : goal.returns-in_err-word
returns-in_err-word c =
    rw (left_with c.from_residual-in_err-word.ensures)
    (start_refused _ _ c.in_ok-check.ensures c.if-text-gt-MAX_CAP.false (start_given _ _ c.if-text-gt-MAX_CAP.false c.body.ensures.body) _ c.in_err-word.was)

pub returns : goal.returns
returns c =
    answered_reading _ _ c.in_ok-check.ensures c.if-text-gt-MAX_CAP.false (start_given _ _ c.if-text-gt-MAX_CAP.false c.body.ensures.body) c.in_ok-word.was _ c.reading_of.ensures
