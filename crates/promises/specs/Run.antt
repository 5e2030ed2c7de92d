-- For the functions that read and list: the answer and the words that they make of a run of the evaluator over the lent words. The promises
-- do not cite these; proofs/SheetReads.antt and SheetLists.antt show that they are kept.
use Rattle.std.specs.Prelude.{Ok, Err}
use Rattle.std.specs.Prelude.{ℕ, Bool, true, false, List}
use Rattle.grammar.specs.Image.{rules}
use Rattle.packrat.specs.Model.{answered, refused, Out, out}
use Rattle.editing.specs.Table.{cleared_table}
use Rattle.promises.specs.Answers.{ReadAnswer, sheet_reading}

-- An answered run is reported, of a text of n bytes, with the count of evaluated pairs; a refused one is refused by the same question.
abbrev pub answer_of : (n : ℕ) → Out → ReadAnswer
answer_of n (out (answered z) t count) = Ok (sheet_reading n z count)
answer_of n (out (refused r) t count) = Err r

-- The words that the run left; those of a refused run with the table zeroed.
abbrev pub words_of : (img : List ℕ) (cap : ℕ) → Out → List ℕ
words_of img cap (out (answered z) t count) = t
words_of img cap (out (refused k) t count) = cleared_table (rules img) cap t

-- The words after a listing whose walk stopped: with 15 those that the reading left, else those with the table zeroed.
abbrev pub stopped_words : (no_slots : Bool) (img : List ℕ) (cap : ℕ) → List ℕ → List ℕ
stopped_words true img cap words = words
stopped_words false img cap words = cleared_table (rules img) cap words
