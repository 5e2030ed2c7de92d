use Rattle.rounds.specs.Visits.{gather_at}
use Rattle.rounds.specs.Rounds.{Sound}
use Rattle.rounds.proofs.OutcomeRounds.{weight}
use Rattle.rounds.proofs.Turns.{Turned}
use Rattle.checker.proofs.order.Rounds.outcome_round.Given as goal

abbrev pub invariant-loop-node : goal.invariant-loop-node
invariant-loop-node l =
    Turned (gather_at l.self.all.now.image.now) weight (Sound l.self.all.now.image.now) l.self.order.now
    l.initial.known l.known l.node-index l.added
