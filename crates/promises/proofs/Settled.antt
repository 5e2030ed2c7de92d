-- What the definitions settle at their edges: instances that a definition which is one off does not have. Assumes nothing.
use Rattle.std.specs.Prelude.{Ok}
use Prim.Native.Nat.{ℕ, ◌≤◌, ◌<◌}
use native.Mathlib.Omega.{arith}
use mathlib.Core.Path.{◌≡◌, ap, ◌∙◌}
use mathlib.Core.List.{List}
use lib.ListN.{length, drop}
use Rattle.grammar.specs.declared.Evaluation.{Evaluation}
use Rattle.grammar.specs.Image.{rules}
use Rattle.reading.specs.Plain.{Says}
use Rattle.reading.proofs.Outcomes.{outcome_says}
use Rattle.packrat.specs.Over.{word_at}
use Rattle.editing.specs.Text.{new_length}
use Rattle.editing.specs.Table.{table_size, TableLent}
use Rattle.editing.proofs.Loans.{cleared_tail}
use Rattle.promises.specs.Answers.{sheet_reading}
use Rattle.promises.specs.Questions.{Question9, Question10, Question11}
use Rattle.promises.specs.Promises.{OpenedSheet, LookUpValues}

-- An edit may end at the end of the text,
pub edits_at_the_end : (n s : ℕ) → s ≤ n → Question9 n s n
edits_at_the_end n s h = record { ordered = h; in_text = omega arith }

-- fill the buffer,
pub fills_the_buffer : (cap n s e k : ℕ) → new_length n s e k ≡ cap → Question10 cap n s e k
fills_the_buffer cap n s e k h = record { room = omega (arith, h) }

-- and a look-up may ask for the end: "position n is the end".
pub looks_at_the_end : (img : List ℕ) (n rule : ℕ) → rule < rules img → Question11 img n rule n
looks_at_the_end img n rule h = record { rule_in = h; position_in = omega arith }

-- "The program gives the slot's word whole": also one without its held bit, as 5.
pub unheld_word_given :
    (img W : List ℕ) (rule position w : ℕ)
    → word_at img W rule position ≡ 5
    → LookUpValues img W rule position (Ok w)
    → w ≡ 5
unheld_word_given img W rule position w e v = v ∙ e

-- "words after it are never touched", by an opening.
pub opening_keeps_the_rest :
    {img text B W B' W' : List ℕ} {n : ℕ}
    → TableLent (rules img) (length B) W
    → OpenedSheet img text B W n B' W'
    → drop (table_size (rules img) (length B)) W' ≡ drop (table_size (rules img) (length B)) W
opening_keeps_the_rest {img} {text} {B} lent o = ap (drop (table_size (rules img) (length B))) o.words_are ∙ cleared_tail lent

-- The answer of a reading says the outcome that the plain reading's does.
pub reading_says : (n : ℕ) (z : Evaluation) (count : ℕ) → z.length ≤ n → Says (sheet_reading n z count).outcome n z
reading_says n z count h = outcome_says n z h
