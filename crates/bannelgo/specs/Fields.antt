-- The seven numbers of each case of each answer: number (0 when answered), outcome (0 nothing, 1 part, 2 whole), length, examined, nesting,
-- evaluations, value. Those that a call does not use are 0.
use Rattle.grammar.specs.Refusals.{number}
use Rattle.std.specs.Prelude.{Ok, Err}
use Rattle.std.specs.Prelude.{ℕ}
use Rattle.reading.specs.Code.{outcome_number}
use Rattle.promises.specs.Answers.{OpenAnswer, EditAnswer, ReadAnswer, LookUpAnswer, ListAnswer}
use Rattle.promises.specs.declared.SheetReading.{SheetReading}
use Rattle.bannelgo.specs.declared.fields.Fields.{Fields}

-- A refusal has its number alone.
abbrev pub refusal : ℕ → Fields
refusal k = record { number = k; outcome = 0; length = 0; examined = 0; nesting = 0; evaluations = 0; value = 0 }

-- An opening: the length is the text's.
abbrev pub open_fields : OpenAnswer → Fields
open_fields (Ok n) = record { number = 0; outcome = 0; length = n; examined = 0; nesting = 0; evaluations = 0; value = 0 }
open_fields (Err r) = refusal (number r)

-- An edit: the new length, and as value the number of pairs standing.
abbrev pub edit_fields : EditAnswer → Fields
edit_fields (Ok x) =
    record { number = 0; outcome = 0; length = x.length; examined = 0; nesting = 0; evaluations = 0; value = x.standing }
edit_fields (Err r) = refusal (number r)

-- A look-up: the value is the word.
abbrev pub look_up_fields : LookUpAnswer → Fields
look_up_fields (Ok w) = record { number = 0; outcome = 0; length = 0; examined = 0; nesting = 0; evaluations = 0; value = w }
look_up_fields (Err r) = refusal (number r)

-- What a reading found, with a value.
abbrev pub reading_fields : SheetReading → (value : ℕ) → Fields
reading_fields x value =
    record {
      number = 0;
      outcome = outcome_number x.outcome;
      length = x.length;
      examined = x.examined;
      nesting = x.nesting;
      evaluations = x.evaluations;
      value = value;
    }

-- A reading: all but the value.
abbrev pub read_fields : ReadAnswer → Fields
read_fields (Ok x) = reading_fields x 0
read_fields (Err r) = refusal (number r)

-- A listing: its reading, and as value the number of rows.
abbrev pub list_fields : ListAnswer → Fields
list_fields (Ok x) = reading_fields x.reading x.rows
list_fields (Err r) = refusal (number r)
