-- The number that the export answers. A refusal is its number; an answered reading has the record's layout: held, matched, zero bits,
-- nesting, examined, length.
use Rattle.grammar.specs.Refusals.{number}
use Rattle.std.specs.Prelude.{◌≡◌, ℕ, Bool, true, false, List, Ok, Err}
use Rattle.records.specs.Words.{record_word}
use Rattle.reading.specs.declared.plain.Outcome.{Outcome}
use Rattle.reading.specs.declared.plain.Outcome.TheVariants.{Whole, Part, Nothing}
use Rattle.reading.specs.Plain.{PlainAnswer}
use Rattle.reading.specs.Plain.{PlainRead}

abbrev pub matched_in : Outcome → Bool
matched_in Whole = true
matched_in Part = true
matched_in Nothing = false

-- The number of an outcome, which is the host's: include/bannelgo.h names them.
abbrev pub outcome_number : Outcome → ℕ
outcome_number Nothing = 0
outcome_number Part = 1
outcome_number Whole = 2

abbrev pub code_of : PlainAnswer → ℕ
code_of (Err r) = number r
code_of (Ok x) =
    record_word
    (record {
      matched = matched_in x.outcome;
      spare = 0;
      nesting = x.nesting;
      examined = x.examined;
      length = x.length;
    })

-- What the export promises: the code of an answer that the plain reading promises.
pub record CodedReading (img text : List ℕ) (code : ℕ) : Type 0 where
  pub answer : PlainAnswer
  pub promised : PlainRead img text answer
  pub code_is : code ≡ code_of answer
