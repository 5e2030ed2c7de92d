-- The well-formed set, by Ford. "Least too is the well-formed set": an inductive type with a constructor for each clause of the paper.
use Rattle.std.specs.Prelude.{ℕ, List}
use Rattle.grammar.specs.declared.node.Node.{Node}
use Rattle.grammar.specs.declared.node.Terminal.{Terminal}
use Rattle.grammar.specs.declared.node.Node.TheVariants.{Empty, Text, Sequence, Choice, Star, NotPredicate, Call}
use Rattle.grammar.specs.Image.{node, body}
use Rattle.grammar.specs.Outcomes.{Has, matches_empty}

-- WellFormed img n: by the grammar of the image img, the node n is in the well-formed set.
pub data WellFormed (img : List ℕ) : Node → Type 0 where
  -- "kinds 0 to 2 are in it;"
  wf_empty : WellFormed img Empty
  wf_terminal : {t : Terminal} → WellFormed img (Text t)
  -- "a call if its body is;"
  wf_call : {r : ℕ} → WellFormed img (body img r) → WellFormed img (Call r)
  -- "A then B if A is, and B is whenever A has 0;"
  wf_then :
      {a b : ℕ}
      → WellFormed img (node img a)
      → (Has img (node img a) matches_empty → WellFormed img (node img b))
      → WellFormed img (Sequence a b)
  -- "A else B if both are;"
  wf_else : {a b : ℕ} → WellFormed img (node img a) → WellFormed img (node img b) → WellFormed img (Choice a b)
  -- "star if A is and A lacks 0;"
  wf_star : {a : ℕ} → WellFormed img (node img a) → (Has img (node img a) matches_empty → ⊥) → WellFormed img (Star a)
  -- "not if A is."
  wf_not : {a : ℕ} → WellFormed img (node img a) → WellFormed img (NotPredicate a)
