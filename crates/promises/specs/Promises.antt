-- The promises of opening, edit and look-up, which are fixed for all images, lengths, buffers and table contents. A call is lent the
-- buffer B, whose length is cap, and the words W; it leaves B' and W'. "A refusal returns its number only and leaves all buffers".
use Rattle.grammar.specs.Refusals.{number_in}
use Rattle.std.specs.Prelude.{Ok, Err}
use Rattle.std.specs.Prelude.{ℕ, ◌≡◌, List, length}
use Rattle.grammar.specs.Image.{rules}
use Rattle.grammar.specs.Questions.{First}
use Rattle.packrat.specs.Over.{word_at}
use Rattle.editing.specs.Text.{new_length, text_after, opened}
use Rattle.editing.specs.Table.{words_after, table_after, cleared_table, held_in}
use Rattle.promises.specs.Answers.{OpenAnswer, EditAnswer, LookUpAnswer}
use Rattle.promises.specs.declared.EditedSheet.{EditedSheet}
use Rattle.promises.specs.Questions.{of_sheet, of_edit, of_look_up}

-- A refused call: every byte and word is as it was.
pub record Unchanged (B W B' W' : List ℕ) : Type 0 where
  pub same_bytes : B' ≡ B
  pub same_words : W' ≡ W

-- "Open: copies the text, zeroes the rest of the buffer and the table; the set is empty. The answer is the text's length n."
pub record OpenedSheet (img text B W : List ℕ) (n : ℕ) (B' W' : List ℕ) : Type 0 where
  pub length_is : n ≡ length text
  pub bytes_are : B' ≡ opened (length B) text
  pub words_are : W' ≡ cleared_table (rules img) (length B) W

abbrev pub OpenValues : (img text B W : List ℕ) → OpenAnswer → (B' W' : List ℕ) → Type 0
OpenValues img text B W (Ok n) B' W' = OpenedSheet img text B W n B' W'
OpenValues img text B W (Err r) B' W' = Unchanged B W B' W'

pub record OpenPromise (img text B W : List ℕ) (a : OpenAnswer) (B' W' : List ℕ) : Type 0 where
  pub first : First (of_sheet img (length B) (length text) (length W)) (number_in a)
  pub values : OpenValues img text B W a B' W'

-- "Edit (s, e, r), r of k bytes: bytes s to e − 1 give way to r; buffer bytes past the new length n' become 0." "A slot whose pair
-- doesn't stand after an edit is 0." "The answer gives the new length and the number of pairs standing."
pub record EditedLoan (img B : List ℕ) (n : ℕ) (W : List ℕ) (s e : ℕ) (r : List ℕ) (x : EditedSheet) (B' W' : List ℕ) : Type 0 where
  pub length_is : x.length ≡ new_length n s e (length r)
  pub standing_are : x.standing ≡ held_in (words_after (rules img) (length B) n s e (length r) W)
  pub bytes_are : B' ≡ text_after B n s e r
  pub words_are : W' ≡ table_after (rules img) (length B) n s e (length r) W

abbrev pub EditValues : (img B : List ℕ) (n : ℕ) (W : List ℕ) (s e : ℕ) (r : List ℕ) → EditAnswer → (B' W' : List ℕ) → Type 0
EditValues img B n W s e r (Ok x) B' W' = EditedLoan img B n W s e r x B' W'
EditValues img B n W s e r (Err q) B' W' = Unchanged B W B' W'

pub record EditPromise (img B : List ℕ) (n : ℕ) (W : List ℕ) (s e : ℕ) (r : List ℕ) (a : EditAnswer) (B' W' : List ℕ) : Type 0 where
  pub first : First (of_edit img (length B) n (length W) s e (length r)) (number_in a)
  pub values : EditValues img B n W s e r a B' W'

-- "The program gives the slot's word whole." It is lent nothing that it could change.
abbrev pub LookUpValues : (img W : List ℕ) (rule position : ℕ) → LookUpAnswer → Type 0
LookUpValues img W rule position (Ok w) = w ≡ word_at img W rule position
LookUpValues img W rule position (Err r) = Unit {0}

pub record LookUpPromise (img B : List ℕ) (n : ℕ) (W : List ℕ) (rule position : ℕ) (a : LookUpAnswer) : Type 0 where
  pub first : First (of_look_up img (length B) n (length W) rule position) (number_in a)
  pub values : LookUpValues img W rule position a
