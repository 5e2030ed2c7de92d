-- The cycle of the walk. The measure is three times the allowance, a node below a part, a part below the kinds.
use Rattle.listing.specs.Gives.{Kept}
use Rattle.listing.proofs.Paths.{Rounds}
use Rattle.std.proofs.Common.{◌+◌, ◌-◌, ◌*◌, length}
use Rattle.listing.proofs.state.Walk.+walk.Given as goal

abbrev pub decreases-walk_choice : goal.decreases-walk_choice
decreases-walk_choice l = 3 * l.left + 2

abbrev pub decreases-walk_node : goal.decreases-walk_node
decreases-walk_node l = 3 * l.left + 0

abbrev pub decreases-walk_not : goal.decreases-walk_not
decreases-walk_not l = 3 * l.left + 2

abbrev pub decreases-walk_part : goal.decreases-walk_part
decreases-walk_part l = 3 * l.left + 1

abbrev pub decreases-walk_rule : goal.decreases-walk_rule
decreases-walk_rule l = 3 * l.left + 2

abbrev pub decreases-walk_sequence : goal.decreases-walk_sequence
decreases-walk_sequence l = 3 * l.left + 2

abbrev pub decreases-walk_star : goal.decreases-walk_star
decreases-walk_star l = 3 * l.left + 2

abbrev pub invariant-walk_star-loop-x : goal.invariant-walk_star-loop-x
invariant-walk_star-loop-x l =
    Kept l.fn.self l.self × Rounds l.fn.self l.left l.a l.at l.window l.depth l.before l.self

abbrev pub decreases-walk_star-loop-x : goal.decreases-walk_star-loop-x
decreases-walk_star-loop-x l = length l.self.text.now - (l.at + l.before)
