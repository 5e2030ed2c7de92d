-- `keep_rows` meets its contract: the rows before `row` are done. Assumes nothing.
use Prim.Native.Nat.{◌-◌, ◌+◌, ◌*◌}
use native.Mathlib.Omega.{arith}
use Rattle.buffers.proofs.Parts.{mid_long}
use Rattle.records.proofs.Slots.{row_room}
use Rattle.front.proofs.Rows.{row_done, counts_fit}
use Rattle.front.proofs.keep_rows.Goals as goal

pub overflow_add-c : goal.overflow_add-c
overflow_add-c c =
    let a = c.loop-row.row * c.args.rules in
    let room = row_room c.args.rules c.loop-row.row c.args.rows (omega arith) in
    let long = c.loop-row.invariant.filled.long in
    let w = mid_long a (a + c.args.rules - a) c.loop-row.part (omega arith) in
    let few = counts_fit c.loop-row.invariant c.keep_row-c.ensures in
    omega arith

pub loop-row-preserved : goal.loop-row-preserved
loop-row-preserved c =
    let a = c.loop-row.row * c.args.rules in
    let room = row_room c.args.rules c.loop-row.row c.args.rows (omega arith) in
    row_done c.args.rules c.args.s c.loop-row.row (a + c.args.rules - a) (omega arith) (omega arith) (omega arith) c.loop-row.invariant
    c.keep_row-c.ensures
