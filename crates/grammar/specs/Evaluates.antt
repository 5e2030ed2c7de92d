-- Evaluating a node at a position, by Ford's rules, with the paper's examined length and nesting: an inductive relation with a
-- constructor for each case of the paper. Where evaluating does not end there is no evaluation.
-- The paper evaluates at positions 0 to n. The relation does not ask that: whoever takes a position from elsewhere asks it.
use Rattle.std.specs.Prelude.{ℕ, ◌+◌, max, ◌≡◌, Bool, true, false, not, List}
use Rattle.grammar.specs.declared.Evaluation.{Evaluation}
use Rattle.grammar.specs.declared.node.Node.{Node}
use Rattle.grammar.specs.declared.node.Terminal.{Terminal}
use Rattle.grammar.specs.declared.node.Node.TheVariants.{Empty, Text, Sequence, Choice, Star, NotPredicate, Call}
use Rattle.grammar.specs.Image.{node, body}
use Rattle.grammar.specs.Terminal.{terminal_at}

-- "Empty: length 0, examined 0." Nesting is "1 if there are none" inside.
abbrev pub empty_here : Evaluation
empty_here = record { matched = true; length = 0; examined = 0; nesting = 1 }

-- "Nesting: 1 + the largest nesting among the evaluations made inside": where one is made inside,
abbrev pub nesting_over : Evaluation → ℕ
nesting_over x = 1 + x.nesting

-- and where two are.
abbrev pub nesting_over_both : Evaluation → Evaluation → ℕ
nesting_over_both x y = 1 + max x.nesting y.nesting

-- "A failure has length 0."
abbrev pub length_if : Bool → ℕ → ℕ
length_if true l = l
length_if false l = 0

-- "A then B: if A fails, A's examined;"
abbrev pub first_failed : Evaluation → Evaluation
first_failed x = record { matched = false; length = 0; examined = x.examined; nesting = nesting_over x }

-- "else the larger of A's examined and A's length + B's examined; lengths add."
abbrev pub in_sequence : Evaluation → Evaluation → Evaluation
in_sequence x y =
    record {
      matched = y.matched;
      length = length_if y.matched (x.length + y.length);
      examined = max x.examined (x.length + y.examined);
      nesting = nesting_over_both x y;
    }

-- A node that takes outcome, length and examined from what is evaluated inside it: "A else B: A's if it matches;", "Call: outcome,
-- length and examined of the rule's body", and a star from its rounds.
abbrev pub taken_over : Evaluation → Evaluation
taken_over x = record { matched = x.matched; length = x.length; examined = x.examined; nesting = nesting_over x }

-- "else B's outcome and length, examined the larger of both."
abbrev pub second_choice : Evaluation → Evaluation → Evaluation
second_choice x y =
    record {
      matched = y.matched;
      length = y.length;
      examined = max x.examined y.examined;
      nesting = nesting_over_both x y;
    }

-- "Star: rounds until one fails; lengths add; examined is the largest of (start of round − start of star + the round's examined),
-- the failing round included." The rounds of a star from some round on have a length, an examined length counted from the start of
-- that round, and the largest nesting among them, which does not grow with their number. These are the failing round's:
abbrev pub last_round : Evaluation → Evaluation
last_round x = record { matched = true; length = 0; examined = x.examined; nesting = x.nesting }

-- These are those of a round x that matched and of the rounds y after it:
abbrev pub round_then : Evaluation → Evaluation → Evaluation
round_then x y =
    record {
      matched = true;
      length = x.length + y.length;
      examined = max x.examined (x.length + y.examined);
      nesting = max x.nesting y.nesting;
    }

-- "Not: length 0, A's examined."
abbrev pub negated : Evaluation → Evaluation
negated x = record { matched = not x.matched; length = 0; examined = x.examined; nesting = nesting_over x }

-- How a pair, which is the paper's name for a rule and a position, is answered where it is called, and the start pair too: by
-- evaluating the rule's body, or by what a record says of it. `no_answer` is a record that is not possible (question 12).
pub data CallAnswer : Type 0 where
  by_body : CallAnswer
  by_record : Evaluation → CallAnswer
  no_answer : CallAnswer

-- What is evaluated at a position: a node, a pair's rule, or the rounds of a star over a child from some round on.
pub data Subject : Type 0 where
  a_node : Node → Subject
  a_pair : (rule : ℕ) → Subject
  rounds_of : (child : ℕ) → Subject

-- Evaluates img text answers s p z: by the grammar of the image img, on the text, with calls answered so, s at the position p has
-- the evaluation z.
pub data Evaluates (img text : List ℕ) (answers : ℕ → ℕ → CallAnswer) : Subject → ℕ → Evaluation → Type 0 where
  -- empty
  ev_empty : {p : ℕ} {z : Evaluation} → z ≡ empty_here → Evaluates img text answers (a_node Empty) p z
  -- any, byte from A to B
  ev_terminal :
      {t : Terminal} {p : ℕ} {z : Evaluation} → z ≡ terminal_at t text p → Evaluates img text answers (a_node (Text t)) p z
  -- A then B, A fails
  ev_then_first_fails :
      {a b p : ℕ} {x z : Evaluation}
      → Evaluates img text answers (a_node (node img a)) p x
      → x.matched ≡ false
      → z ≡ first_failed x
      → Evaluates img text answers (a_node (Sequence a b)) p z
  -- A then B, A matches
  ev_then :
      {a b p : ℕ} {x y z : Evaluation}
      → Evaluates img text answers (a_node (node img a)) p x
      → x.matched ≡ true
      → Evaluates img text answers (a_node (node img b)) (p + x.length) y
      → z ≡ in_sequence x y
      → Evaluates img text answers (a_node (Sequence a b)) p z
  -- A else B, A matches
  ev_else_first :
      {a b p : ℕ} {x z : Evaluation}
      → Evaluates img text answers (a_node (node img a)) p x
      → x.matched ≡ true
      → z ≡ taken_over x
      → Evaluates img text answers (a_node (Choice a b)) p z
  -- A else B, A fails
  ev_else_second :
      {a b p : ℕ} {x y z : Evaluation}
      → Evaluates img text answers (a_node (node img a)) p x
      → x.matched ≡ false
      → Evaluates img text answers (a_node (node img b)) p y
      → z ≡ second_choice x y
      → Evaluates img text answers (a_node (Choice a b)) p z
  -- A zero or more times: its rounds
  ev_star :
      {a p : ℕ} {x z : Evaluation}
      → Evaluates img text answers (rounds_of a) p x
      → z ≡ taken_over x
      → Evaluates img text answers (a_node (Star a)) p z
  -- a round that fails is the last
  ev_last_round :
      {a p : ℕ} {x z : Evaluation}
      → Evaluates img text answers (a_node (node img a)) p x
      → x.matched ≡ false
      → z ≡ last_round x
      → Evaluates img text answers (rounds_of a) p z
  -- a round that matches, and the rounds after it
  ev_round :
      {a p : ℕ} {x y z : Evaluation}
      → Evaluates img text answers (a_node (node img a)) p x
      → x.matched ≡ true
      → Evaluates img text answers (rounds_of a) (p + x.length) y
      → z ≡ round_then x y
      → Evaluates img text answers (rounds_of a) p z
  -- not A
  ev_not :
      {a p : ℕ} {x z : Evaluation}
      → Evaluates img text answers (a_node (node img a)) p x
      → z ≡ negated x
      → Evaluates img text answers (a_node (NotPredicate a)) p z
  -- call of rule A: "For a call the body is inside."
  ev_call :
      {r p : ℕ} {x z : Evaluation}
      → Evaluates img text answers (a_pair r) p x
      → z ≡ taken_over x
      → Evaluates img text answers (a_node (Call r)) p z
  -- "A pair is (rule, position); its evaluation is the body's there."
  ev_body :
      {r p : ℕ} {z : Evaluation}
      → answers r p ≡ by_body
      → Evaluates img text answers (a_node (body img r)) p z
      → Evaluates img text answers (a_pair r) p z
  -- "each held pair that is called, and the start pair too, taking what its word says, true or not"
  ev_record : {r p : ℕ} {z : Evaluation} → answers r p ≡ by_record z → Evaluates img text answers (a_pair r) p z

-- The evaluation by Ford's rules alone: every call is answered by the rule's body.
abbrev pub bodies_only : ℕ → ℕ → CallAnswer
bodies_only r p = by_body

abbrev pub Fresh : (img text : List ℕ) → Subject → ℕ → Evaluation → Type 0
Fresh img text = Evaluates img text bodies_only
