-- `edit_table` meets its contract, by the law of the edited table. Assumes nothing.
use Prim.Native.Nat.{◌*◌, ◌-◌}
use native.Mathlib.Omega.{arith}
use borrow.Rule.Slice.PartMut.{put_mid}
use Rattle.records.specs.Slots.{table_size}
use Rattle.table.proofs.TableLaw.{slots_fit, front_long, back_room, counts_fit, table_is, standing_is}
use Rattle.table.proofs.edit_table.Goals as goal

pub edit_back-requires : goal.edit_back-requires
edit_back-requires c =
    let R = c.args.rules in
    let from = c.args.edit.now.s * R in
    let F = slots_fit R c.requires.edit_fits in
    let whole = c.requires.table_lent.whole in
    let long = front_long from c.args.table.now c.keep_front-kept.new.part (omega arith) c.keep_front-kept.ensures.filled.long in
    rw c.gone.ensures
    (rw c.behind.ensures
    (back_room from (table_size R c.args.cap - from) (put_mid 0 from c.args.table.now c.keep_front-kept.new.part) (omega arith)
    c.requires.table_lent.most_rules (omega arith) (omega arith) (omega arith)))

pub overflow_add-result : goal.overflow_add-result
overflow_add-result c =
    let R = c.args.rules in
    let from = c.args.edit.now.s * R in
    let F = slots_fit R c.requires.edit_fits in
    let whole = c.requires.table_lent.whole in
    let long = front_long from c.args.table.now c.keep_front-kept.new.part (omega arith) c.keep_front-kept.ensures.filled.long in
    let few = counts_fit from (table_size R c.args.cap - from) (put_mid 0 from c.args.table.now c.keep_front-kept.new.part)
    c.keep_front-kept.ensures c.edit_back.ensures (omega arith) in
    omega arith

pub returns-clause-standing : goal.returns-clause-standing
returns-clause-standing c =
    standing_is c.requires.table_lent c.requires.edit_fits c.keep_front-kept.ensures
    (rw c.gone.ensures at rw c.behind.ensures at c.edit_back.ensures)

pub returns-clause-after : goal.returns-clause-after
returns-clause-after c =
    table_is c.requires.table_lent c.requires.edit_fits c.keep_front-kept.ensures
    (rw c.gone.ensures at rw c.behind.ensures at c.edit_back.ensures)
