-- A listing as a function of what it is lent, where questions 1 to 8 hold: it keeps its promise. Assumes nothing.
--     list_reply, list_words    its reply, and the words that it leaves
--     list_linked             a link of a list of calls, for every number of row slots
use Rattle.grammar.specs.Refusals.{number}
use Rattle.std.specs.Prelude.{Ok, Err}
use Prim.Native.Nat.{ℕ, ◌≤◌}
use native.Mathlib.Omega.{arith}
use mathlib.Core.Path.{◌≡◌, refl, sym, subst}
use mathlib.Core.List.{List, [], ◌++◌}
use lib.ListN.{length, take, drop, replicate, length-replicate}
use lib.Dec.{eqb}
use lib.Seq.{take_at, length-take-le}
use Rattle.grammar.specs.declared.Evaluation.{Evaluation}
use Rattle.grammar.specs.Image.{rules}
use Rattle.grammar.specs.Questions.{First, Accepted}
use Rattle.packrat.specs.Model.{answered, refused, Out, out}
use Rattle.packrat.specs.Session.{start_run}
use Rattle.rows.specs.Walk.{Walked, walked, stopped, Trail, trail, start_v}
use Rattle.rows.specs.Bounds.{Bounded, May}
use Rattle.rows.proofs.Bounds.{start_bounded}
use Rattle.editing.specs.Table.{cleared_table}
use Rattle.promises.specs.Answers.{ListAnswer, sheet_reading}
use Rattle.promises.specs.declared.SheetReading.{SheetReading}
use Rattle.promises.specs.Questions.{Question8, of_sheet}
use Rattle.promises.specs.Listing.{SheetListed}
use Rattle.promises.specs.Run.{stopped_words}
use Rattle.ledger.specs.Ledger.{Reply, listing, lists}
use Rattle.ledger.specs.Demand.{loan, Link, list_link, rows_given}
use Rattle.promises.proofs.Asked.{sheet_passed}
use Rattle.loaded.proofs.LoadedImage.{loaded_grammar, image_loaded}
use Rattle.promises.proofs.SheetLists.{refused_listed, written_listed, stopped_listed, lists_done}

-- The walk over the words that its reading left, its reply, and the words that are left then.
abbrev pub walk_over : (slots : ℕ) (img text words : List ℕ) → Trail
walk_over slots img text words = start_v slots (loaded_grammar img) text words 0 (length text)

abbrev pub walk_reply : SheetReading → Trail → Reply
walk_reply x (trail (walked m l c) rows) = lists (Ok (record { reading = x; rows = length rows })) rows
walk_reply x (trail (stopped k) rows) = lists (Err k) []

abbrev pub walk_words : (img : List ℕ) (cap : ℕ) (words : List ℕ) → Trail → List ℕ
walk_words img cap words (trail (walked m l c) rows) = words
walk_words img cap words (trail (stopped k) rows) = stopped_words (eqb (number k) 15) img cap words

abbrev pub list_reply : (n slots : ℕ) (img text : List ℕ) → Out → Reply
list_reply n slots img text (out (answered z) words count) = walk_reply (sheet_reading n z count) (walk_over slots img text words)
list_reply n slots img text (out (refused k) words count) = lists (Err k) []

abbrev pub list_words : (cap slots : ℕ) (img text : List ℕ) → Out → List ℕ
list_words cap slots img text (out (answered z) words count) = walk_words img cap words (walk_over slots img text words)
list_words cap slots img text (out (refused k) words count) = cleared_table (rules img) cap words

module _ (img B : List ℕ) (n : ℕ) (W : List ℕ) (good : First (of_sheet img (length B) n (length W)) 0) where
  -- A listing with the row slots R, by cases of the run and of the walk.
  module _ (R : List ℕ) where
    passed : Accepted img × Question8 img (length B) n (length W)
    passed = sheet_passed img (length B) n (length W) good

    long : length (take n B) ≡ n
    long = length-take-le n B passed.1.text_fits

    text_fits : length (take n B) ≤ length B
    text_fits = rw long passed.1.text_fits

    abbrev ALink : Reply → List ℕ → Type 0
    ALink reply W' = Link (loan img B n W) (listing (length R)) reply (loan img B n W')

    linked :
        {a : ListAnswer} {W' R' : List ℕ} → SheetListed img (take n B) (length B) W R a W' R'
        → ALink (lists a (rows_given a R')) W'
    linked s = list_link (lists_done img B n W R good s)

    walk-linked :
        {z : Evaluation} {words : List ℕ} {count : ℕ} → start_run img (take n B) W 0 ≡ out (answered z) words count
        → Bounded (length (take n B)) (length R) 0 0 (walk_over (length R) img (take n B) words)
        → ALink (walk_reply (sheet_reading n z count) (walk_over (length R) img (take n B) words))
        (walk_words img (length B) words (walk_over (length R) img (take n B) words))
    walk-linked {z} {words} {count} e b =
        subst
        (λ (o : Trail). ALink (walk_reply (sheet_reading n z count) o) (walk_words img (length B) words o))
        (sym b.is) (go b.answer b.is b.may)
      where
        go :
            (a : Walked) → walk_over (length R) img (take n B) words ≡ trail a b.words
            → May (length (take n B)) 0 0 (length b.words) a
            → ALink (walk_reply (sheet_reading n z count) (trail a b.words)) (walk_words img (length B) words (trail a b.words))
        go (walked m len c) w k =
            subst
            (λ (rows : List ℕ).
            ALink (lists (Ok (record { reading = sheet_reading n z count; rows = length b.words })) rows) words)
            (take_at b.words (drop (length b.words) R) (length b.words) refl)
            (subst
            (λ (i : ℕ).
            ALink
            (lists (Ok (record { reading = sheet_reading i z count; rows = length b.words }))
            (take (length b.words) (b.words ++ drop (length b.words) R)))
            words)
            long
            (linked
            (written_listed img (take n B) (length B) W R passed.0 passed.1.short text_fits passed.1.whole_table
            (image_loaded img passed.0.lawful) e w (let f = b.fit in omega arith))))
        go (stopped k) w h =
            linked
            (stopped_listed img (take n B) (length B) W R passed.0 passed.1.short text_fits passed.1.whole_table
            (image_loaded img passed.0.lawful) e w h)

    run-linked :
        (o : Out) → start_run img (take n B) W 0 ≡ o
        → ALink (list_reply n (length R) img (take n B) o) (list_words (length B) (length R) img (take n B) o)
    run-linked (out (answered z) words count) e =
        walk-linked e (start_bounded (length R) (loaded_grammar img) (take n B) words 0 (length (take n B)))
    run-linked (out (refused k) words count) e =
        linked
        (refused_listed img (take n B) (length B) W R passed.0 passed.1.short text_fits passed.1.whole_table
        (image_loaded img passed.0.lawful) e)

  pub list_linked :
      (slots : ℕ)
      → Link (loan img B n W) (listing slots) (list_reply n slots img (take n B) (start_run img (take n B) W 0))
      (loan img B n (list_words (length B) slots img (take n B) (start_run img (take n B) W 0)))
  list_linked slots =
      subst
      (λ (k : ℕ).
      Link (loan img B n W) (listing k) (list_reply n k img (take n B) (start_run img (take n B) W 0))
      (loan img B n (list_words (length B) k img (take n B) (start_run img (take n B) W 0))))
      (length-replicate {A = ℕ} slots 0)
      (run-linked (replicate slots 0) (start_run img (take n B) W 0) refl)
