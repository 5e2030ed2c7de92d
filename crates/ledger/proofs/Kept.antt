-- How a function keeps a call's promise: the promise of each kind of answer, from the questions and from what was written. The reading's
-- are in SheetReads.antt of crate promises. Assumes nothing.
use Rattle.grammar.specs.declared.refusal.Refusal.{Refusal}
use Rattle.grammar.specs.Refusals.{number}
use Rattle.std.specs.Prelude.{Ok, Err}
use Prim.Native.Nat.{ℕ}
use mathlib.Core.Path.{◌≡◌, refl}
use mathlib.Core.List.{List}
use lib.ListN.{length}
use Rattle.grammar.specs.Image.{rules}
use Rattle.grammar.specs.Questions.{First}
use Rattle.packrat.specs.Over.{word_at}
use Rattle.editing.specs.Text.{new_length, text_after, opened}
use Rattle.editing.specs.Table.{words_after, table_after, cleared_table, held_in}
use Rattle.promises.specs.declared.EditedSheet.{EditedSheet}
use Rattle.promises.specs.Questions.{Question9, Question10, Question11, of_sheet, of_edit, of_look_up}
use Rattle.promises.specs.Promises.{OpenPromise, EditPromise, LookUpPromise}
use Rattle.promises.proofs.Asked.{edit_0, look_up_0}

module _ (img text B W : List ℕ) where
  pub open_done :
      {B' W' : List ℕ}
      → First (of_sheet img (length B) (length text) (length W)) 0
      → B' ≡ opened (length B) text
      → W' ≡ cleared_table (rules img) (length B) W
      → OpenPromise img text B W (Ok (length text)) B' W'
  open_done f b w = record { first = f; values = record { length_is = refl; bytes_are = b; words_are = w } }

module _ (img B : List ℕ) (n : ℕ) (W : List ℕ) where
  module _ (s e : ℕ) (r : List ℕ) where
    pub edit_refused :
        (q : Refusal) → First (of_edit img (length B) n (length W) s e (length r)) (number q)
        → EditPromise img B n W s e r (Err q) B W
    edit_refused q f = record { first = f; values = record { same_bytes = refl; same_words = refl } }

    pub edit_done :
        {x : EditedSheet} {B' W' : List ℕ}
        → First (of_sheet img (length B) n (length W)) 0
        → Question9 n s e
        → Question10 (length B) n s e (length r)
        → x.length ≡ new_length n s e (length r)
        → x.standing ≡ held_in (words_after (rules img) (length B) n s e (length r) W)
        → B' ≡ text_after B n s e r
        → W' ≡ table_after (rules img) (length B) n s e (length r) W
        → EditPromise img B n W s e r (Ok x) B' W'
    edit_done f p q l c b w =
        record {
          first = edit_0 img (length B) n (length W) f s e (length r) p q;
          values = record { length_is = l; standing_are = c; bytes_are = b; words_are = w };
        }

  module _ (rule position : ℕ) where
    pub look_up_refused :
        (r : Refusal) → First (of_look_up img (length B) n (length W) rule position) (number r)
        → LookUpPromise img B n W rule position (Err r)
    look_up_refused r f = record { first = f; values = tt }

    pub look_up_done :
        {w : ℕ}
        → First (of_sheet img (length B) n (length W)) 0
        → Question11 img n rule position
        → w ≡ word_at img W rule position
        → LookUpPromise img B n W rule position (Ok w)
    look_up_done f q e = record { first = look_up_0 img (length B) n (length W) f rule position q; values = e }
