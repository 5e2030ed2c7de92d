-- `desk::Desk::list_slots` meets its contract: the library's promise, over the row slots that are lent. Assumes nothing.
use Rattle.std.proofs.Common.{arith, ap, length, length-take}
use Rattle.replay.specs.Calls.{Lent}
use Rattle.replay.proofs.Rows.{rows_lent}
use Rattle.replay.proofs.desk.Desk.list_slots.Goals as goal

-- The rows that the answer counts are slots that were lent.
pub returns-clause-upper_bound : goal.returns-clause-upper_bound
returns-clause-upper_bound c =
    let r = rows_lent c.list_sheet.ensures in
    let l = c.list_sheet.auto.rows in
    let v = ap (λ (x : Lent). length x.slots) c.self.view_is in
    let t = length-take c.args.count c.self.inside.slots.now in
    omega arith
