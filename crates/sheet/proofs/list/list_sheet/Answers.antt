use Rattle.std.proofs.Common.{◌≡◌, sym, ap, ◌∙◌, refl}
use Rattle.grammar.proofs.Refusals.{left_with}
use Rattle.promises.proofs.SheetLists.{lists_unasked}
use denote.Enum.Bare.{sameb}
use mathlib.Core.Bool.{Bool, true, false, not}
use lib.Dec.{eqb}
use Rattle.grammar.specs.contracts.refusal.Refusal.{the_type}
use Rattle.grammar.specs.Refusals.{number}
use Rattle.grammar.specs.declared.refusal.Refusal.{Refusal}
use Rattle.grammar.specs.declared.refusal.Refusal.TheVariants.{Edition, Counts, Size, Words, Occurrences, StarBodies, WellFormed, Loan, EditRange, EditRoom, Pair, Records, StarRounds, Nesting, Rows}
use Rattle.sheet.proofs.ListLaws.{list_refused, list_rows, list_stopped}
use Rattle.sheet.proofs.list.list_sheet.Goals as goal

pub returns-in_err-rules : goal.returns-in_err-rules
returns-in_err-rules c =
    let a = c.args in
    rw (left_with c.from_residual.ensures)
    (lists_unasked a.image.now a.buffer.now a.n a.table.now a.rows.now c.in_err-rules.field-0.0 c.in_err-rules.ensures.first)

pub returns-in_err-reading : goal.returns-in_err-reading
returns-in_err-reading c =
    let a = c.args in
    rw (left_with c.from_residual-in_err-reading.ensures)
    (list_refused a.image.now a.buffer.now a.n a.table.now a.rows.now c.in_ok-rules.ensures.passed c.make_reading.ensures.answer
    c.make_reading.ensures.words c.in_err-reading.was)

pub returns-in-Ok : goal.returns-in-Ok
returns-in-Ok c =
    let a = c.args in
    list_rows a.image.now a.buffer.now a.n a.table.now a.rows.now c.in_ok-rules.ensures.passed c.make_reading.ensures.answer
    c.make_reading.ensures.words c.in_ok-reading.was c.in-Ok.ensures

-- A refusal is that of the rows where its number is 15.
by_number : (r : Refusal) → eqb (number r) 15 ≡ sameb the_type r Rows
by_number Edition = refl
by_number Counts = refl
by_number Size = refl
by_number Words = refl
by_number Occurrences = refl
by_number StarBodies = refl
by_number WellFormed = refl
by_number Loan = refl
by_number EditRange = refl
by_number EditRoom = refl
by_number Pair = refl
by_number Records = refl
by_number StarRounds = refl
by_number Nesting = refl
by_number Rows = refl

flipped : (b e : Bool) → e ≡ not b → b ≡ not e
flipped true e f = ap not (sym f)
flipped false e f = ap not (sym f)

pub returns-then-ne : goal.returns-then-ne
returns-then-ne c =
    let a = c.args in
    let stopped =
    list_stopped a.image.now a.buffer.now a.n a.table.now a.rows.now c.in_ok-rules.ensures.passed c.make_reading.ensures.answer
    c.make_reading.ensures.words c.in_ok-reading.was c.in-Err.ensures in
    rw (c.clear_table.ensures, c.in_ok-rules.ensures.rules)
    (rw (by_number c.in-Err.refusal ∙ flipped _ _ (sym c.if-ne.true ∙ c.ne.ensures)) at stopped)

pub returns-else-ne : goal.returns-else-ne
returns-else-ne c =
    let a = c.args in
    let stopped =
    list_stopped a.image.now a.buffer.now a.n a.table.now a.rows.now c.in_ok-rules.ensures.passed c.make_reading.ensures.answer
    c.make_reading.ensures.words c.in_ok-reading.was c.in-Err.ensures in
    rw (by_number c.in-Err.refusal ∙ flipped _ _ (sym c.if-ne.false ∙ c.ne.ensures)) at stopped
