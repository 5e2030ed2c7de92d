-- The cycle of the evaluator: each method answers, stores and counts as the model over a loaded grammar does. Each answer is a way of
-- packrat/proofs/Runs, Stars or Rules. The measure is four times the allowance: a kind below a node, a node below a rule, a rule below what has
-- something inside.
-- Assumes nothing.
use Rattle.std.proofs.Common.{suc, ◌+◌, ◌-◌, ◌*◌, length}
use Rattle.packrat.proofs.Stars.{Rounds}
use Rattle.packrat.specs.Model.{rounds_m}
use Rattle.evaluator.specs.Runs.{Kept, node_run}
use Rattle.evaluator.proofs.run.Run.+eval.Given as goal

abbrev pub decreases-eval_call : goal.decreases-eval_call
decreases-eval_call l = 4 * l.left + 3

abbrev pub decreases-eval_choice : goal.decreases-eval_choice
decreases-eval_choice l = 4 * l.left + 3

abbrev pub decreases-eval_node : goal.decreases-eval_node
decreases-eval_node l = 4 * l.left + 1

abbrev pub decreases-eval_not : goal.decreases-eval_not
decreases-eval_not l = 4 * l.left + 3

abbrev pub decreases-eval_rule : goal.decreases-eval_rule
decreases-eval_rule l = 4 * l.left + 2

abbrev pub decreases-eval_sequence : goal.decreases-eval_sequence
decreases-eval_sequence l = 4 * l.left + 3

abbrev pub decreases-eval_star : goal.decreases-eval_star
decreases-eval_star l = 4 * l.left + 3

abbrev pub decreases-eval_word : goal.decreases-eval_word
decreases-eval_word l = 4 * l.left + 0

abbrev pub invariant-eval_star-loop-x : goal.invariant-eval_star-loop-x
invariant-eval_star-loop-x l =
    Kept l.initial.self l.self × Rounds (length l.initial.self.text.now) l.at l.left (node_run l.initial.self l.left) l.a (rounds_m (suc (length l.initial.self.text.now)) (node_run l.initial.self l.left) l.a l.at l.initial.self.table.now l.initial.self.count) l.self.table.now l.self.count l.consumed l.examined l.deepest

abbrev pub decreases-eval_star-loop-x : goal.decreases-eval_star-loop-x
decreases-eval_star-loop-x l =
    length l.initial.self.text.now - (l.at + l.consumed)
