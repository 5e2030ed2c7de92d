-- Where every call is answered by the body, what is asked of records holds of all of them: there is none. Assumes nothing.
use Prim.Native.Nat.{ℕ, ◌≤◌}
use mathlib.Core.List.{List}
use lib.ListN.{length}
use Rattle.grammar.specs.declared.Evaluation.{Evaluation}
use Rattle.grammar.specs.declared.node.Node.{Node}
use Rattle.grammar.specs.Outcomes.{Has}
use Rattle.grammar.specs.Evaluates.{bodies_only, Fresh, Subject, a_node}
use Rattle.grammar.proofs.Determinism.{no_record}
use Rattle.evaluation.specs.Within.{Within}
use Rattle.evaluation.proofs.Shape.{within}
use Rattle.evaluation.proofs.Described.{outcome, described}

module _ {img text : List ℕ} where
  pub fresh_within : {s : Subject} {p : ℕ} {z : Evaluation} → Fresh img text s p z → p ≤ length text → Within (length text) p z
  fresh_within u h = within img text bodies_only (λ r p x h e. absurd (no_record e)) u h

  pub fresh_described : {n : Node} {p : ℕ} {z : Evaluation} → Fresh img text (a_node n) p z → Has img n (outcome z)
  fresh_described u = described img text bodies_only (λ r p x e. absurd (no_record e)) u
