-- Question 13 never fails: under an accepted image every matched round of every star has length 1 or more. Assumes nothing.
use Rattle.std.proofs.Common.{◌≡◌, ℕ, ◌<◌, Bool, true, List, subst}
use Rattle.grammar.specs.declared.Evaluation.{Evaluation}
use Rattle.grammar.specs.declared.node.Node.TheVariants.{Star}
use Rattle.grammar.specs.Image.{node, nodes}
use Rattle.grammar.specs.Outcomes.{Has}
use Rattle.grammar.specs.Questions.{Accepted}
use Rattle.grammar.specs.Evaluates.{Fresh, a_node}
use Rattle.grammar.proofs.Acceptance.{stars_of_formed}
use Rattle.evaluation.proofs.Described.{shown}
use Rattle.evaluation.proofs.Plain.{fresh_described}

pub rounds_consume :
    (img text : List ℕ) (n a p : ℕ) {x : Evaluation}
    → Accepted img
    → n < nodes img
    → node img n ≡ Star a
    → Fresh img text (a_node (node img a)) p x
    → x.matched ≡ true
    → x.length ≡ 0
    → ⊥
rounds_consume img text n a p {x} accepted l e u m z =
    (stars_of_formed accepted.well_formed).stars n a l e
    (subst (λ (k : ℕ). Has img (node img a) (shown true k)) z
    (subst (λ (b : Bool). Has img (node img a) (shown b x.length)) m (fresh_described u)))
