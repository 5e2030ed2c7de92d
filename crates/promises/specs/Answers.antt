-- The answer of each call: its values, or the refusal by the first question that fails. The number of an answered call is 0 (`number_in` of
-- crate grammar). The values of an answered reading are made here; those of the other calls are what the promises say.
use Rattle.std.specs.Prelude.{ℕ, Result, eqb}
use Rattle.grammar.specs.declared.Evaluation.{Evaluation}
use Rattle.grammar.specs.declared.refusal.Refusal.{Refusal}
use Rattle.reading.specs.Plain.{outcome_of}
use Rattle.promises.specs.declared.EditedSheet.{EditedSheet}
use Rattle.promises.specs.declared.SheetReading.{SheetReading}
use Rattle.promises.specs.declared.SheetListing.{SheetListing}

abbrev pub OpenAnswer : Type 0
OpenAnswer = Result ℕ Refusal

abbrev pub EditAnswer : Type 0
EditAnswer = Result EditedSheet Refusal

abbrev pub LookUpAnswer : Type 0
LookUpAnswer = Result ℕ Refusal

abbrev pub ReadAnswer : Type 0
ReadAnswer = Result SheetReading Refusal

abbrev pub ListAnswer : Type 0
ListAnswer = Result SheetListing Refusal

-- "Reading: the answer is the start pair's evaluation, as whole, part or none": of a text of n bytes, the evaluation z and so many
-- evaluations. The outcome is the one that `Says` of the plain reading names (crate `reading`, `OutcomeSays`).
abbrev pub sheet_reading : (n : ℕ) → Evaluation → (evaluations : ℕ) → SheetReading
sheet_reading n z count =
    record {
      outcome = outcome_of z.matched (eqb z.length n);
      length = z.length;
      examined = z.examined;
      nesting = z.nesting;
      evaluations = count;
    }
