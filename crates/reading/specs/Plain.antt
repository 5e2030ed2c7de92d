-- The plain reading: what it answers, and when it refuses.
use Rattle.grammar.specs.declared.refusal.Refusal.{Refusal}
use Rattle.grammar.specs.declared.refusal.Refusal.TheVariants.{Nesting}
use Rattle.grammar.specs.Refusals.{number_in}
use Rattle.std.specs.Prelude.{◌≡◌, ℕ, ◌<◌, ◌≤◌, Bool, true, false, List, [], ◌∷◌, ◌++◌, length, ◌==◌, Result, Ok, Err}
use Rattle.grammar.specs.declared.Evaluation.{Evaluation}
use Rattle.grammar.specs.Image.{start}
use Rattle.grammar.specs.Evaluates.{Fresh, a_pair}
use Rattle.grammar.specs.Questions.{Question, First, of_image}
use Rattle.reading.specs.declared.plain.Outcome.{Outcome}
use Rattle.reading.specs.declared.plain.Outcome.TheVariants.{Whole, Part, Nothing}
use Rattle.reading.specs.declared.plain.Reading.{Reading}

-- "A reading is whole (matched, length n), part (matched, shorter) or none"
abbrev pub Says : Outcome → (n : ℕ) → Evaluation → Type 0
Says Whole n z = (z.matched ≡ true) × (z.length ≡ n)
Says Part n z = (z.matched ≡ true) × (z.length < n)
Says Nothing n z = z.matched ≡ false

-- "it also gives length, examined length and nesting"
pub record Reports (n : ℕ) (z : Evaluation) (x : Reading) : Type 0 where
  pub outcome_is : Says x.outcome n z
  pub length_is : x.length ≡ z.length
  pub examined_is : x.examined ≡ z.examined
  pub nesting_is : x.nesting ≡ z.nesting

-- "A plain reading asks only for n ≤ 65,535."
pub record ShortText (text : List ℕ) : Type 0 where
  pub short : length text ≤ 65535

-- "14. Is the start pair's nesting at most 4,096?"
pub record DepthAllowed (img text : List ℕ) : Type 0 where
  pub value : Evaluation
  pub evaluated : Fresh img text (a_pair (start img)) 0 value
  pub allowed : value.nesting ≤ 4096

-- The start pair has an evaluation, and its nesting is above 4,096.
pub record TooDeep (img text : List ℕ) : Type 0 where
  pub value : Evaluation
  pub evaluated : Fresh img text (a_pair (start img)) 0 value
  pub above : 4096 < value.nesting

-- The questions of a plain reading, in order. Question 13 asks whether every star round consumed; under an accepted image each does
-- (proofs/Consuming.antt), so it is never the one that fails.
abbrev pub of_plain : (img text : List ℕ) → List Question
of_plain img text =
    of_image img
    ++ record { number = 8; holds = ShortText text } ∷ record { number = 14; holds = DepthAllowed img text } ∷ []

-- A reading, or the refusal by the question that failed.
abbrev pub PlainAnswer : Type 0
PlainAnswer = Result Reading Refusal

-- The start pair's evaluation, as the reading reports it.
pub record Reported (img text : List ℕ) (x : Reading) : Type 0 where
  pub value : Evaluation
  pub evaluated : Fresh img text (a_pair (start img)) 0 value
  pub reports : Reports (length text) value x

-- The values of each case. The refusal with 14 says that there is an evaluation which is too deep.
abbrev pub Values : (img text : List ℕ) → PlainAnswer → Type 0
Values img text (Ok x) = Reported img text x
Values img text (Err r) = r ≡ Nesting → TooDeep img text

-- What a plain reading promises.
pub record PlainRead (img text : List ℕ) (r : PlainAnswer) : Type 0 where
  pub first : First (of_plain img text) (number_in r)
  pub values : Values img text r

-- The outcome as a function: the answer of a sheet's reading is made by it (crate `promises`, `sheet_reading`). It is the one that `Says` names,
-- for every evaluation in a text of n bytes (proofs/Outcomes.antt, `outcome_says`).
abbrev pub outcome_of : (matched full : Bool) → Outcome
outcome_of false full = Nothing
outcome_of true true = Whole
outcome_of true false = Part

abbrev pub OutcomeSays : Type 0
OutcomeSays = (n : ℕ) (z : Evaluation) → z.length ≤ n → Says (outcome_of z.matched (z.length == n)) n z

-- For the functions inside: the reading that an evaluation is reported as.
abbrev pub reading_of : ℕ → Evaluation → Reading
reading_of n z =
    record {
      outcome = outcome_of z.matched (z.length == n);
      length = z.length;
      examined = z.examined;
      nesting = z.nesting;
    }
