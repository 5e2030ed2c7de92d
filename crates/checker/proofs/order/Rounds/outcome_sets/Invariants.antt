use Rattle.rounds.specs.Visits.{gather_at}
use Rattle.rounds.specs.Rounds.{no_outcomes, Sound}
use Rattle.grammar.specs.Image.{nodes}
use Rattle.rounds.proofs.OutcomeRounds.{weight}
use Rattle.rounds.proofs.Turns.{Reached}
use Prim.Native.Nat.{◌*◌, ◌-◌}
use Rattle.checker.proofs.order.Rounds.outcome_sets.Given as goal

abbrev pub invariant-rounds : goal.invariant-rounds
invariant-rounds l =
    Sound l.self.all.now.image.now l.known × Reached (gather_at l.self.all.now.image.now) l.self.order.now no_outcomes l.known

abbrev pub decreases-rounds : goal.decreases-rounds
decreases-rounds l = 3 * nodes l.self.all.now.image.now - weight l.known
