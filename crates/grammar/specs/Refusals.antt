-- The number of each refusal, and the number that a call answers with: 0 where it is not refused.
use Rattle.std.specs.Prelude.{ℕ, Result, Ok, Err}
use Rattle.grammar.specs.declared.refusal.Refusal.{Refusal}
use Rattle.grammar.specs.declared.refusal.Refusal.TheVariants.{Edition, Counts, Size, Words, Occurrences, StarBodies, WellFormed}
use Rattle.grammar.specs.declared.refusal.Refusal.TheVariants.{Loan, EditRange, EditRoom, Pair, Records, StarRounds, Nesting, Rows}

abbrev pub number : Refusal → ℕ
number Edition = 1
number Counts = 2
number Size = 3
number Words = 4
number Occurrences = 5
number StarBodies = 6
number WellFormed = 7
number Loan = 8
number EditRange = 9
number EditRoom = 10
number Pair = 11
number Records = 12
number StarRounds = 13
number Nesting = 14
number Rows = 15

abbrev pub number_in : {A : Type 0} → Result A Refusal → ℕ
number_in (Ok x) = 0
number_in (Err r) = number r
