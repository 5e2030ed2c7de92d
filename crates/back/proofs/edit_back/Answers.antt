-- `edit_back` meets its contract, by the law of the back. Assumes nothing.
use native.Mathlib.Omega.{arith}
use mathlib.Core.Path.{◌∙◌}
use lib.Seq.{get_or-take, length-take-le}
use Rattle.back.proofs.BackLaw.{back_done, counts_fit}
use Rattle.back.proofs.edit_back.Goals as goal

pub overflow_add-result : goal.overflow_add-result
overflow_add-result c =
    let long = length-take-le c.args.rules c.staying_row-row.result (omega arith) in
    let few = counts_fit c.carry-carried.ensures c.put_row.ensures in
    omega (arith, long, c.requires.most_rules, c.requires.new_fits)

pub returns : goal.returns
returns c =
    let rules = c.args.rules in
    let row = c.staying_row-row.result in
    let long = length-take-le rules row (omega arith) in
    back_done
    rules
    c.args.gone
    c.args.new
    c.args.tail
    c.args.part.now
    c.carry-carried.new.part
    c.clear.new.part
    c.clear-2.new.part
    c.requires
    (record { stay = λ rule h. get_or-take rules row rule 0 h ∙ c.staying_row-row.ensures.stay rule h })
    c.carry-carried.ensures
    c.clear.ensures
    c.clear-2.ensures
    (rw long at c.put_row.ensures)
