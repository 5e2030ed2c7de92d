-- Outcomes of a node, by Ford: a bound on what the node does, which not every text reaches. "These are the least sets": an
-- inductive type with a constructor for each clause of the paper ("0 or 1" is two clauses, and so is "0 and 1").
use Rattle.std.specs.Prelude.{ℕ, List}
use Rattle.grammar.specs.declared.node.Node.{Node}
use Rattle.grammar.specs.declared.node.Terminal.{Terminal}
use Rattle.grammar.specs.declared.node.Node.TheVariants.{Empty, Text, Sequence, Choice, Star, NotPredicate, Call}
use Rattle.grammar.specs.Image.{node, body}

-- "an outcome is 0 (matches nothing long), 1 (consumes) or f (fails)"
pub data Outcome : Type 0 where
  matches_empty : Outcome
  consumes : Outcome
  fails : Outcome

-- Has img n o: by the grammar of the image img, the node n has the outcome o.
pub data Has (img : List ℕ) : Node → Outcome → Type 0 where
  -- "Empty has 0."
  empty_0 : Has img Empty matches_empty
  -- "Kinds 1 and 2 have 1 and f."
  terminal_1 : {t : Terminal} → Has img (Text t) consumes
  terminal_f : {t : Terminal} → Has img (Text t) fails
  -- "A call has its rule body's outcomes."
  call_body : {r : ℕ} {o : Outcome} → Has img (body img r) o → Has img (Call r) o
  -- "A then B: 0 if both have 0;"
  then_00 : {a b : ℕ} → Has img (node img a) matches_empty → Has img (node img b) matches_empty → Has img (Sequence a b) matches_empty
  -- "1 if A has 1 and B has 0 or 1, or A has 0 and B has 1;"
  then_10 : {a b : ℕ} → Has img (node img a) consumes → Has img (node img b) matches_empty → Has img (Sequence a b) consumes
  then_11 : {a b : ℕ} → Has img (node img a) consumes → Has img (node img b) consumes → Has img (Sequence a b) consumes
  then_01 : {a b : ℕ} → Has img (node img a) matches_empty → Has img (node img b) consumes → Has img (Sequence a b) consumes
  -- "f if A has f, or A has 0 or 1 and B has f."
  then_f : {a b : ℕ} → Has img (node img a) fails → Has img (Sequence a b) fails
  then_0f : {a b : ℕ} → Has img (node img a) matches_empty → Has img (node img b) fails → Has img (Sequence a b) fails
  then_1f : {a b : ℕ} → Has img (node img a) consumes → Has img (node img b) fails → Has img (Sequence a b) fails
  -- "A else B: A's 0 and 1, and all of B's if A has f."
  else_0 : {a b : ℕ} → Has img (node img a) matches_empty → Has img (Choice a b) matches_empty
  else_1 : {a b : ℕ} → Has img (node img a) consumes → Has img (Choice a b) consumes
  else_second : {a b : ℕ} {o : Outcome} → Has img (node img a) fails → Has img (node img b) o → Has img (Choice a b) o
  -- "Star: 1 if A has 1, 0 if A has f."
  star_1 : {a : ℕ} → Has img (node img a) consumes → Has img (Star a) consumes
  star_0 : {a : ℕ} → Has img (node img a) fails → Has img (Star a) matches_empty
  -- "Not: f if A has 0 or 1, 0 if A has f."
  not_f0 : {a : ℕ} → Has img (node img a) matches_empty → Has img (NotPredicate a) fails
  not_f1 : {a : ℕ} → Has img (node img a) consumes → Has img (NotPredicate a) fails
  not_0 : {a : ℕ} → Has img (node img a) fails → Has img (NotPredicate a) matches_empty
