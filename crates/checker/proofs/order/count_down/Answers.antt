use Rattle.std.proofs.Common.{ℕ, ◌-◌, length, arith, refl, sym, ◌∙◌}
use Rattle.std.proofs.lemmas.List.{take_all}
use Rattle.grammar.proofs.Writes.{next_written}
use Rattle.rounds.proofs.Orders.{descending_array}
use Rattle.checker.proofs.order.count_down.Goals as goal

pub loop-i-init : goal.loop-i-init
loop-i-init c = λ k l. absurd (omega arith)

pub loop-i-preserved : goal.loop-i-preserved
loop-i-preserved c =
    next_written (λ (k : ℕ). length c.args.places.now - 1 - k) c.loop-i.places c.loop-i.i _ (omega (arith, c.loop-i-test.true, c.loop-i.auto.places)) refl c.loop-i.invariant

pub returns : goal.returns
returns c =
    let many = length c.args.places.now in
    let long = c.loop-i.auto.places in
    sym (take_all many c.loop-i.places (omega (arith, long)))
    ∙ descending_array many c.loop-i.places (omega (arith, long)) (λ k l. c.loop-i.invariant k (omega (arith, l, c.loop-i-test.false)))
