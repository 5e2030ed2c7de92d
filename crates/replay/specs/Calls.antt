-- A call that the program makes keeps the library's promise for an answer, and the text's length that the next call is lent is the one
-- answered, the former one where the call is refused. That this answer is the one printed is not said here: nothing is proved of what
-- prints.
use Rattle.std.specs.Prelude.{ℕ, ◌≡◌, List, length}
use Rattle.promises.specs.Answers.{OpenAnswer, EditAnswer, ReadAnswer, ListAnswer}
use Rattle.answered.specs.After.{after_open, after_edit, rows_in}
use Rattle.promises.specs.Promises.{OpenPromise, EditPromise}
use Rattle.promises.specs.Reading.{ReadPromise}
use Rattle.promises.specs.Listing.{ListPromise}

-- What calls are lent: the image, the text buffer, the table and the text's length; and the row slots, of which a listing takes the first.
pub record Lent : Type 0 where
  pub image : List ℕ
  pub buffer : List ℕ
  pub table : List ℕ
  pub slots : List ℕ
  pub n : ℕ

pub record Opens (img text B W : List ℕ) (n next : ℕ) (B' W' : List ℕ) : Type 0 where
  pub answer : OpenAnswer
  pub keeps : OpenPromise img text B W answer B' W'
  pub gives : next ≡ after_open answer n

pub record Edits (img B : List ℕ) (n : ℕ) (W : List ℕ) (s e : ℕ) (r : List ℕ) (next : ℕ) (B' W' : List ℕ) : Type 0 where
  pub answer : EditAnswer
  pub keeps : EditPromise img B n W s e r answer B' W'
  pub gives : next ≡ after_edit answer n

pub record ReadsSheet (img B : List ℕ) (n : ℕ) (W W' : List ℕ) : Type 0 where
  pub answer : ReadAnswer
  pub keeps : ReadPromise img B n W answer W'

pub record ListsSheet (img B : List ℕ) (n : ℕ) (W R : List ℕ) (count : ℕ) (W' R' : List ℕ) : Type 0 where
  pub answer : ListAnswer
  pub keeps : ListPromise img B n W R answer W' R'
  pub gives : count ≡ rows_in answer

-- Over so many row slots.
pub record ListsInto (img B : List ℕ) (n : ℕ) (W : List ℕ) (slots : ℕ) (W' : List ℕ) : Type 0 where
  pub lent : List ℕ
  pub left : List ℕ
  pub count : ℕ
  pub many : length lent ≡ slots
  pub lists : ListsSheet img B n W lent count W' left
