use lib.Seq.{length-take-le}
use Rattle.promises.proofs.SheetReads.{reads_are, reads_unasked}
use Rattle.grammar.proofs.Refusals.{left_with}
use Rattle.sheet.proofs.read.read_sheet.Goals as goal

pub returns-in_err-asked : goal.returns-in_err-asked
returns-in_err-asked c =
    let a = c.args in
    rw (left_with c.from_residual.ensures)
    (reads_unasked a.image.now a.buffer.now a.n a.table.now c.in_err-asked.field-0.0 c.in_err-asked.ensures.first)

pub returns : goal.returns
returns c =
    let a = c.args in
    let known = c.in_ok-asked.ensures.passed in
    rw (c.make_reading.ensures.answer, c.make_reading.ensures.words, length-take-le a.n a.buffer.now known.1.text_fits)
    (reads_are a.image.now a.buffer.now a.n a.table.now known.0 known.1)
