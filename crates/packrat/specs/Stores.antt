-- What an evaluation over a table of records stores: "it answers that evaluation, evaluations counts the pairs whose body is evaluated
-- in it, and the table gains just those".
use Rattle.grammar.specs.declared.refusal.Refusal.{Refusal}
use Rattle.std.specs.Prelude.{ℕ, ◌+◌, ◌%◌, ◌≤◌, ◌<◌, ◌^◌, ◌≡◌, List, length, get_or}
use Rattle.grammar.specs.declared.Evaluation.{Evaluation}
use Rattle.grammar.specs.Image.{rules}
use Rattle.grammar.specs.Evaluates.{a_pair}
use Rattle.evaluation.specs.Calls.{Pair, In, is_in}
use Rattle.evaluation.specs.Counts.{count_pairs}
use Rattle.records.specs.Words.{word_of}
use Rattle.records.specs.Slots.{slot_of, table_size}
use Rattle.packrat.specs.Model.{answered, refused, Out, out}
use Rattle.packrat.specs.Over.{word_at, Over}

-- The table has a slot for each rule at each position of the text.
abbrev pub Room : (img text table : List ℕ) → Type 0
Room img text table = table_size (rules img) (length text) ≤ length table

-- The word is the one of its pair's evaluation over a table, whose nesting is at most 4,096.
pub record IsStored (img text table : List ℕ) (rule position word : ℕ) : Type 0 where
  pub value : Evaluation
  pub evaluated : Over img text table (a_pair rule) position value
  pub word_is : word ≡ word_of value
  pub nesting_allowed : value.nesting ≤ 4096

-- The table before and after: the slots of the pairs ps have the words of their evaluations over the table before, and every other
-- word is as it was, those of positions past the end and those after the table included.
pub record Stores (img text before : List ℕ) (ps : List Pair) (after : List ℕ) : Type 0 where
  pub as_long : length after ≡ length before
  pub gained : (r q : ℕ) → In (record { rule = r; position = q }) ps → IsStored img text before r q (word_at img after r q)
  pub kept :
      (j : ℕ)
      → ((r q : ℕ) → In (record { rule = r; position = q }) ps → j ≡ slot_of (rules img) r q → ⊥)
      → get_or after j 0 ≡ get_or before j 0

-- How many pairs of the text are among ps, each counted once.
abbrev pub evaluations : (img text : List ℕ) → List Pair → ℕ
evaluations img text ps = count_pairs (rules img) (length text + 1) (λ r q. is_in r q ps)

-- A run over a table from a count, in whose evaluation z the bodies of the pairs ps are evaluated. The count is a u64.
pub record Determined (img text before : List ℕ) (count : ℕ) (z : Evaluation) (ps : List Pair) (o : Out) : Type 0 where
  pub after : List ℕ
  pub counted : ℕ
  pub is : o ≡ out (answered z) after counted
  pub stores : Stores img text before ps after
  pub counts : count < 2 ^ 64 → counted ≡ (count + evaluations img text ps) % 2 ^ 64

-- A run that is refused.
pub record RefusedWith (reason : Refusal) (o : Out) : Type 0 where
  pub after : List ℕ
  pub counted : ℕ
  pub is : o ≡ out (refused reason) after counted
