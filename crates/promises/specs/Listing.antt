-- The listing's promise, for all images, lengths, buffers, table contents and row slots. The text is the first n bytes of the buffer B. The
-- words W and the row slots R are lent; the listing leaves W' and R'. B it cannot change.
use Rattle.grammar.specs.declared.refusal.Refusal.{Refusal}
use Rattle.grammar.specs.Refusals.{number_in}
use Rattle.std.specs.Prelude.{Ok, Err}
use Rattle.grammar.specs.declared.refusal.Refusal.TheVariants.{Records, Nesting, Rows}
use Rattle.std.specs.Prelude.{ℕ, ◌≤◌, ◌<◌, ◌≡◌, List, ◌++◌, ◌⊎◌, length, take, drop}
use Rattle.grammar.specs.declared.Evaluation.{Evaluation}
use Rattle.grammar.specs.Image.{rules, start}
use Rattle.grammar.specs.Evaluates.{Fresh, a_pair}
use Rattle.grammar.specs.Questions.{First}
use Rattle.rows.specs.Rows.{rows_of, row_words}
use Rattle.editing.specs.Table.{cleared_table}
use Rattle.promises.specs.Answers.{ReadAnswer, ListAnswer}
use Rattle.promises.specs.declared.SheetReading.{SheetReading}
use Rattle.promises.specs.Questions.{of_sheet}
use Rattle.promises.specs.Reading.{NotForeign, SheetRead}

-- After a reading that answered x, in the row slots R: "15. Rows: do the rows fit? No: 15." "The answer is the reading's and the number of
-- rows. Rows past the last written stay."
pub record GivesRows (x : SheetReading) (rows R : List ℕ) (a : ListAnswer) (R' : List ℕ) : Type 0 where
  pub written :
      length rows ≤ length R
      → (a ≡ Ok (record { reading = x; rows = length rows })) × (R' ≡ rows ++ drop (length rows) R)
  pub too_many : length R < length rows → (a ≡ Err Rows) × (R' ≡ R)

-- How a listing may end after a reading that answered x and left these words, whatever the table held before: "it ends, changes only the
-- table and, if answered, the lent row slots, [..] zeroes the table with 12 and 14". With 15 the reading's records stay. Free is, over
-- foreign records: what the reading is free in; whether the listing is answered or refused with 12, 14 or 15 after it; how many rows it
-- gives, as long as they fit, and their words. Nothing else is free.
pub data EndsAs (img : List ℕ) (cap : ℕ) (x : SheetReading) (words R : List ℕ) : ListAnswer → (W' R' : List ℕ) → Type 0 where
  listed :
      (rows : List ℕ)
      → length rows ≤ length R
      → EndsAs img cap x words R (Ok (record { reading = x; rows = length rows })) words (rows ++ drop (length rows) R)
  no_slots : EndsAs img cap x words R (Err Rows) words R
  zeroed : {r : Refusal} → (r ≡ Records) ⊎ (r ≡ Nesting) → EndsAs img cap x words R (Err r) (cleared_table (rules img) cap words) R

-- A reading that is refused refuses the listing, which leaves what the reading left.
pub record RefusedAlso (r : Refusal) (words R : List ℕ) (a : ListAnswer) (W' R' : List ℕ) : Type 0 where
  pub answer_is : a ≡ Err r
  pub words_are : W' ≡ words
  pub slots_are : R' ≡ R

-- After a reading that answered x and left these words. Over a table W without foreign records the rows are those of the text by Ford's
-- rules, and the reading's words stay.
pub record ListedAfter (img text : List ℕ) (cap : ℕ) (W : List ℕ) (x : SheetReading) (words R : List ℕ) (a : ListAnswer)
    (W' R' : List ℕ) : Type 0 where
  pub ends : EndsAs img cap x words R a W' R'
  pub rows_are :
      NotForeign img text W → (z : Evaluation) (d : Fresh img text (a_pair (start img)) 0 z)
      → GivesRows x (row_words (rows_of d 0)) R a R' × (W' ≡ words)

abbrev pub ThenListed :
    (img text : List ℕ) (cap : ℕ) (W : List ℕ) → ReadAnswer → (words R : List ℕ) → ListAnswer → (W' R' : List ℕ) → Type 0
ThenListed img text cap W (Ok x) words R a W' R' = ListedAfter img text cap W x words R a W' R'
ThenListed img text cap W (Err r) words R a W' R' = RefusedAlso r words R a W' R'

-- A listing that passed questions 1 to 8: "Listing makes a reading, then writes the calls that made the match".
pub record SheetListed (img text : List ℕ) (cap : ℕ) (W R : List ℕ) (a : ListAnswer) (W' R' : List ℕ) : Type 0 where
  pub reading : ReadAnswer
  pub words : List ℕ
  pub reads : SheetRead img text cap W reading words
  pub then : ThenListed img text cap W reading words R a W' R'

-- What a listing promises: the first number of questions 1 to 8 that fails, and then every word and row slot as it was; or a listing of
-- the text.
pub record ListPromise (img B : List ℕ) (n : ℕ) (W R : List ℕ) (a : ListAnswer) (W' R' : List ℕ) : Type 0 where
  pub number : ℕ
  pub first : First (of_sheet img (length B) n (length W)) number
  pub refused : 1 ≤ number → (number_in a ≡ number) × (W' ≡ W) × (R' ≡ R)
  pub listed : number ≡ 0 → SheetListed img (take n B) (length B) W R a W' R'
