use mathlib.Core.Path.{refl}
use Rattle.rounds.proofs.OutcomeRounds.{sound_start, weight_bound, round_adds, round_sound, outcome_sets_left}
use Rattle.rounds.proofs.Turns.{reached_none, reached_more, nothing_more}
use Rattle.rounds.proofs.Stars.{order_visits}
use native.Mathlib.Omega.{arith}
use Rattle.checker.proofs.order.Rounds.outcome_sets.Goals as goal

pub rounds-init : goal.rounds-init
rounds-init c = (sound_start c.args.self.now.all.now.image.now 1024 refl, reached_none _)

pub rounds-smaller : goal.rounds-smaller
rounds-smaller c =
    let img = c.args.self.now.all.now.image.now in
    let lawful = c.args.self.now.all.now.lawful in
    let visits = order_visits _ _ c.args.self.now.downward in
    let made = c.outcome_round-added.ensures in
    let heavier = round_adds img _ lawful.counts lawful.words visits c.rounds.invariant.0 made c.if-not-added.false in
    omega (arith, weight_bound img _ (round_sound img _ lawful.counts lawful.words visits c.rounds.invariant.0 made))

pub rounds-preserved : goal.rounds-preserved
rounds-preserved c =
    let img = c.args.self.now.all.now.image.now in
    let lawful = c.args.self.now.all.now.lawful in
    let visits = order_visits _ _ c.args.self.now.downward in
    let made = c.outcome_round-added.ensures in
    (round_sound img _ lawful.counts lawful.words visits c.rounds.invariant.0 made, reached_more _ c.rounds.invariant.1 made.is_round)

pub returns : goal.returns
returns c =
    let lawful = c.args.self.now.all.now.lawful in
    let visits = order_visits _ _ c.args.self.now.downward in
    let made = c.outcome_round-added.ensures in
    outcome_sets_left c.args.self.now.all.now.image.now _ lawful.counts lawful.words visits _
    (reached_more _ c.rounds.invariant.1 made.is_round)
    (nothing_more _ _ made c.if-not-added.true)
