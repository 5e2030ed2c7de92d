-- The reading's promise, for all images, lengths, buffers and table contents. The text is the first n bytes of the buffer B. The words W
-- are lent, and the reading leaves W'; B it cannot change.
use Rattle.grammar.specs.declared.refusal.Refusal.{Refusal}
use Rattle.grammar.specs.declared.refusal.Refusal.TheVariants.{Records, Nesting}
use Rattle.grammar.specs.Refusals.{number_in}
use Rattle.std.specs.Prelude.{Ok, Err}
use Rattle.std.specs.Prelude.{ℕ, ◌≤◌, ◌≡◌, true, false, List, ◌⊎◌, length, take, drop}
use Rattle.grammar.specs.declared.Evaluation.{Evaluation}
use Rattle.grammar.specs.Image.{rules, start}
use Rattle.grammar.specs.Evaluates.{a_pair}
use Rattle.grammar.specs.Questions.{First}
use Rattle.evaluation.specs.Calls.{Pair, bodies_of}
use Rattle.records.specs.Words.{is_held, possible}
use Rattle.reading.specs.Plain.{TooDeep}
use Rattle.packrat.specs.Over.{word_at, Over}
use Rattle.packrat.specs.True.{TrueTable}
use Rattle.packrat.specs.Closed.{ClosedTable}
use Rattle.packrat.specs.Stores.{Stores, evaluations}
use Rattle.editing.specs.Table.{table_size, cleared_table}
use Rattle.promises.specs.Answers.{ReadAnswer, sheet_reading}
use Rattle.promises.specs.declared.SheetReading.{SheetReading}
use Rattle.promises.specs.Questions.{of_sheet}

-- No foreign records: every held word of a pair of the text is true, its nesting is at most 4,096 (TrueTable), and the pairs that its
-- body calls are held (ClosedTable). Words at positions above n are not asked: a reading never meets them.
pub record NotForeign (img text W : List ℕ) : Type 0 where
  pub true_words : TrueTable img text W
  pub closed : ClosedTable img text W

-- "it answers that evaluation, evaluations counts the pairs whose body is evaluated in it, and the table gains just those": z is the
-- evaluation and ps are the pairs.
pub record AnswersWith (img text W : List ℕ) (z : Evaluation) (ps : List Pair) (a : ReadAnswer) (W' : List ℕ) : Type 0 where
  pub answer_is : a ≡ Ok (sheet_reading (length text) z (evaluations img text ps))
  pub stores : Stores img text W ps W'

-- A reading that passed questions 1 to 8, of a text in a buffer of cap bytes. Free is, over foreign records where none of `impossible`,
-- `determinate` and `too_deep` applies: whether it is answered or refused with 12 or 14; and, if it is answered, outcome, examined, nesting
-- and evaluations, the length up to n, and the words of the table. Nothing else is free.
pub record SheetRead (img text : List ℕ) (cap : ℕ) (W : List ℕ) (a : ReadAnswer) (W' : List ℕ) : Type 0 where
  -- Over every table: "it ends, changes only the table", "words after it are never touched",
  pub as_long : length W' ≡ length W
  pub after_table : drop (table_size (rules img) cap) W' ≡ drop (table_size (rules img) cap) W
  -- "has a length of at most n, zeroes the table with 12 and 14", and is refused with nothing else;
  pub in_text : (x : SheetReading) → a ≡ Ok x → x.length ≤ length text
  pub numbers : (r : Refusal) → a ≡ Err r → (r ≡ Records) ⊎ (r ≡ Nesting)
  pub zeroed : (r : Refusal) → a ≡ Err r → W' ≡ cleared_table (rules img) cap W
  -- "and gives 12 when the word of (start, 0) is held and impossible."
  pub impossible :
      is_held (word_at img W (start img) 0) ≡ true
      → possible (word_at img W (start img) 0) 0 (length text) ≡ false
      → number_in a ≡ 12
  -- "A reading that is no listing isn't free where Ford's rules, each held pair that is called, and the start pair too, taking what its
  -- word says, true or not, give the start pair a nesting of at most 4,096 and meet only possible words and no star round of length 0".
  -- An evaluation over a table meets no other: an impossible word answers nothing, and a star with a matched round of length 0 has none
  -- (`still` of crate grammar).
  pub determinate :
      (z : Evaluation) (d : Over img text W (a_pair (start img)) 0 z)
      → z.nesting ≤ 4096
      → AnswersWith img text W z (bodies_of d) a W'
  -- Over a table without foreign records: "14. Is the start pair's nesting at most 4,096? No: 14."
  pub too_deep : NotForeign img text W → TooDeep img text → number_in a ≡ 14
  -- "Over all other tables 12 is never given."
  pub never_12 : NotForeign img text W → number_in a ≡ 12 → ⊥

-- What a reading promises: the first number of questions 1 to 8 that fails, and then every word as it was; or a reading of the text.
pub record ReadPromise (img B : List ℕ) (n : ℕ) (W : List ℕ) (a : ReadAnswer) (W' : List ℕ) : Type 0 where
  pub number : ℕ
  pub first : First (of_sheet img (length B) n (length W)) number
  pub refused : 1 ≤ number → (number_in a ≡ number) × (W' ≡ W)
  pub read : number ≡ 0 → SheetRead img (take n B) (length B) W a W'
