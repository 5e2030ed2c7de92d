-- What a function of the evaluator promises: its answer, the table and the count are the model's, and an evaluation is in its bounds.
use Rattle.grammar.specs.declared.refusal.Refusal.{Refusal}
use Rattle.std.specs.Prelude.{ℕ, ◌≤◌, ◌≡◌, List, Result, Ok, Err}
use Rattle.grammar.specs.declared.Evaluation.{Evaluation}
use Rattle.evaluation.specs.Within.{Within}
use Rattle.records.specs.Words.{word_of}
use Rattle.packrat.specs.Model.{Answer, answered, refused, Out, out}

-- An answer as the evaluator gives it: the word of the evaluation, or the refusal.
abbrev pub coded : Answer → Result ℕ Refusal
coded (answered x) = Ok (word_of x)
coded (refused r) = Err r

-- An evaluation that the evaluator answers at p of a text of n bytes with an allowance.
pub record Allowed (n p left : ℕ) (x : Evaluation) : Type 0 where
  pub shape : Within n p x
  pub allowed : x.nesting ≤ left

abbrev pub Bounded : (n p left : ℕ) → Answer → Type 0
Bounded n p left (answered x) = Allowed n p left x
Bounded n p left (refused r) = Unit {0}

pub record Gives (n at left : ℕ) (o : Out) (given : Result ℕ Refusal) (table : List ℕ) (count : ℕ) : Type 0 where
  pub answer : Answer
  pub is : o ≡ out answer table count
  pub given_is : given ≡ coded answer
  pub bounds : Bounded n at left answer
