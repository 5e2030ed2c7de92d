-- What holds of a run whatever the table holds and whatever it answers: it "changes only the table", "has a length of at most n", and
-- is refused with 12 or 14 if at all.
use Rattle.grammar.specs.declared.refusal.Refusal.TheVariants.{Records, Nesting}
use Rattle.std.specs.Prelude.{ℕ, ◌≤◌, ◌<◌, ◌≡◌, List, ◌⊎◌, length, get_or}
use Rattle.grammar.specs.Image.{rules}
use Rattle.evaluation.specs.Within.{Within}
use Rattle.records.specs.Slots.{slot_of}
use Rattle.packrat.specs.Model.{Answer, answered, refused, Out, out}

abbrev pub Fits : (n p : ℕ) → Answer → Type 0
Fits n p (answered x) = Within n p x
Fits n p (refused r) = (r ≡ Records) ⊎ (r ≡ Nesting)

-- A run at the position p over a table: every word that is not in the slot of a pair of the text is as it was.
pub record Framed (img text before : List ℕ) (p : ℕ) (o : Out) : Type 0 where
  pub answer : Answer
  pub after : List ℕ
  pub counted : ℕ
  pub is : o ≡ out answer after counted
  pub fits : Fits (length text) p answer
  pub as_long : length after ≡ length before
  pub kept :
      (j : ℕ)
      → ((r q : ℕ) → r < rules img → q ≤ length text → j ≡ slot_of (rules img) r q → ⊥)
      → get_or after j 0 ≡ get_or before j 0
