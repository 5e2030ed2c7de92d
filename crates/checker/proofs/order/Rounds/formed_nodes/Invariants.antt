use Rattle.rounds.specs.Visits.{join_at}
use Rattle.rounds.specs.Rounds.{no_marks, SoundMarks}
use Rattle.grammar.specs.Image.{nodes}
use Rattle.rounds.proofs.FormedRounds.{marks}
use Rattle.rounds.proofs.Turns.{Reached, Turned}
use Prim.Native.Nat.{◌-◌}
use Rattle.checker.proofs.order.Rounds.formed_nodes.Given as goal

abbrev pub invariant-loop-node : goal.invariant-loop-node
invariant-loop-node l =
    Turned (join_at l.self.all.now.image.now l.known) marks (SoundMarks l.self.all.now.image.now) l.self.order.now
    l.initial.formed l.formed l.node-index l.added

abbrev pub invariant-rounds : goal.invariant-rounds
invariant-rounds l =
    SoundMarks l.self.all.now.image.now l.formed × Reached (join_at l.self.all.now.image.now l.known) l.self.order.now no_marks l.formed

abbrev pub decreases-rounds : goal.decreases-rounds
decreases-rounds l = nodes l.self.all.now.image.now - marks l.formed
