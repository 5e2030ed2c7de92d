use Rattle.std.proofs.Common.{◌≤◌}
use Rattle.replay.proofs.replay.Given as goal

abbrev pub invariant-loop-at : goal.invariant-loop-at
invariant-loop-at l = (l.start ≤ l.at) × (l.line ≤ l.at)
