-- The calls as functions of what they are lent, where questions 1 to 8 hold; each keeps its promise. So there is a run of every list of
-- calls from every accepted opening, and there is an accepted opening for every accepted image. Assumes nothing.
--     an_opening       an opening that keeps its promise
--     a_run            a run of every list of calls, with the replies and the loan that the functions give
--     ledger_replies   the ledger's replies are those of the functions, whatever gives it its evaluations
use Rattle.std.specs.Prelude.{Ok, Err}
use Rattle.grammar.specs.declared.refusal.Refusal.TheVariants.{EditRange, EditRoom, Pair}
use Prim.Native.Nat.{ℕ}
use mathlib.Core.Path.{◌≡◌, refl, sym, ◌∙◌}
use mathlib.Core.Bool.{Bool, true, false, ◌&&◌, true≢false}
use mathlib.Core.List.{List, [], ◌∷◌}
use lib.ListN.{length, take, drop}
use lib.Dec.{leb, ltb}
use borrow.Author.Tests.{leb-true, le-leb, ltb-true, lt-ltb}
use Rattle.grammar.specs.Image.{rules}
use Rattle.grammar.specs.Questions.{First, Accepted}
use Rattle.packrat.specs.Over.{word_at}
use Rattle.packrat.specs.Session.{start_run}
use Rattle.editing.specs.Text.{new_length, text_after, opened}
use Rattle.editing.specs.Table.{words_after, table_after, cleared_table, held_in, table_size}
use Rattle.promises.specs.Answers.{EditAnswer, LookUpAnswer}
use Rattle.promises.specs.Questions.{Question8, Question9, of_sheet}
use Rattle.promises.specs.Promises.{OpenPromise, EditPromise, LookUpPromise}
use Rattle.promises.specs.Run.{answer_of, words_of}
use Rattle.ledger.specs.Ledger.{Evaluations, Call, edit, reading, look_up, listing, Reply, edits, reads, finds, Ledger, opened_ledger, turn}
use Rattle.ledger.specs.Ledger.{replies}
use Rattle.ledger.specs.Demand.{Loan, loan, Link, edit_link, read_link, look_up_link, next_length, Trace, done, next, RunsExist}
use Rattle.grammar.proofs.Bools.{both, joined}
use Rattle.promises.proofs.Asked.{sheet_first, sheet_passed, edit_9, edit_10, look_up_11}
use Rattle.ledger.proofs.Kept.{open_done, edit_refused, edit_done, look_up_refused, look_up_done}
use Rattle.promises.proofs.SheetReads.{reads_are}
use Rattle.ledger.proofs.RunLists.{list_reply, list_words, list_linked}
use Rattle.ledger.proofs.Fresh.{evaluations}
use Rattle.ledger.proofs.Inv.{lent}
use Rattle.ledger.proofs.Demand.{opened_image, opening, Holds, holds, one_call, all_calls}

-- An opening is accepted where questions 1 to 8 hold.
pub an_opening :
    (img text B W : List ℕ) → Accepted img → Question8 img (length B) (length text) (length W)
    → OpenPromise img text B W (Ok (length text)) (opened (length B) text) (cleared_table (rules img) (length B) W)
an_opening img text B W accepted q = open_done img text B W (sheet_first img (length B) (length text) (length W) accepted q) refl refl

-- An edit, by the answers to questions 9 and 10.
abbrev pub edit_answer : (passes9 passes10 : Bool) (img B : List ℕ) (n : ℕ) (W : List ℕ) (s e : ℕ) (r : List ℕ) → EditAnswer
edit_answer false b img B n W s e r = Err EditRange
edit_answer true false img B n W s e r = Err EditRoom
edit_answer true true img B n W s e r =
    Ok
    (record {
      length = new_length n s e (length r);
      standing = held_in (words_after (rules img) (length B) n s e (length r) W);
    })

abbrev pub edit_bytes : (passes9 passes10 : Bool) (B : List ℕ) (n s e : ℕ) (r : List ℕ) → List ℕ
edit_bytes false b B n s e r = B
edit_bytes true false B n s e r = B
edit_bytes true true B n s e r = text_after B n s e r

abbrev pub edit_words : (passes9 passes10 : Bool) (img : List ℕ) (cap n : ℕ) (W : List ℕ) (s e k : ℕ) → List ℕ
edit_words false b img cap n W s e k = W
edit_words true false img cap n W s e k = W
edit_words true true img cap n W s e k = table_after (rules img) cap n s e k W

abbrev pub look_up_answer : (passes11 : Bool) (img W : List ℕ) (rule position : ℕ) → LookUpAnswer
look_up_answer false img W rule position = Err Pair
look_up_answer true img W rule position = Ok (word_at img W rule position)

-- The questions on the lent lengths.
abbrev pub asks9 : (n s e : ℕ) → Bool
asks9 n s e = leb s e && leb e n

abbrev pub asks10 : (cap n s e k : ℕ) → Bool
asks10 cap n s e k = leb (new_length n s e k) cap

abbrev pub asks11 : (img : List ℕ) (n rule position : ℕ) → Bool
asks11 img n rule position = ltb rule (rules img) && leb position n

-- What a call answers and what it leaves.
abbrev pub reply_of : Loan → Call → Reply
reply_of (loan img B n W) (edit s e r) =
    edits (edit_answer (asks9 n s e) (asks10 (length B) n s e (length r)) img B n W s e r)
reply_of (loan img B n W) reading = reads (answer_of n (start_run img (take n B) W 0))
reply_of (loan img B n W) (listing slots) = list_reply n slots img (take n B) (start_run img (take n B) W 0)
reply_of (loan img B n W) (look_up rule position) = finds (look_up_answer (asks11 img n rule position) img W rule position)

abbrev pub next_of : Loan → Call → Loan
next_of (loan img B n W) (edit s e r) =
    loan img (edit_bytes (asks9 n s e) (asks10 (length B) n s e (length r)) B n s e r)
    (next_length n (edit_answer (asks9 n s e) (asks10 (length B) n s e (length r)) img B n W s e r))
    (edit_words (asks9 n s e) (asks10 (length B) n s e (length r)) img (length B) n W s e (length r))
next_of (loan img B n W) reading = loan img B n (words_of img (length B) (start_run img (take n B) W 0))
next_of (loan img B n W) (look_up rule position) = loan img B n W
next_of (loan img B n W) (listing slots) = loan img B n (list_words (length B) slots img (take n B) (start_run img (take n B) W 0))

abbrev pub replies_of : Loan → List Call → List Reply
replies_of a [] = []
replies_of a (c ∷ cs) = reply_of a c ∷ replies_of (next_of a c) cs

abbrev pub end_of : Loan → List Call → Loan
end_of a [] = a
end_of a (c ∷ cs) = end_of (next_of a c) cs

module _ (img B : List ℕ) (n : ℕ) (W : List ℕ) (good : First (of_sheet img (length B) n (length W)) 0) where
  edit_kept :
      (s e : ℕ) (r : List ℕ) (b c : Bool) → asks9 n s e ≡ b → asks10 (length B) n s e (length r) ≡ c
      → EditPromise img B n W s e r (edit_answer b c img B n W s e r) (edit_bytes b c B n s e r)
      (edit_words b c img (length B) n W s e (length r))
  edit_kept s e r false c t u =
      edit_refused img B n W s e r EditRange
      (edit_9 img (length B) n (length W) good s e (length r)
      (λ q. true≢false (sym (joined (le-leb s e q.ordered) (le-leb e n q.in_text)) ∙ t)))
  edit_kept s e r true c t u = go c u
    where
      asked : Question9 n s e
      asked = let b = both (leb s e) (leb e n) t in record { ordered = leb-true s e b.0; in_text = leb-true e n b.1 }

      go :
          (c : Bool) → asks10 (length B) n s e (length r) ≡ c
          → EditPromise img B n W s e r (edit_answer true c img B n W s e r) (edit_bytes true c B n s e r)
          (edit_words true c img (length B) n W s e (length r))
      go false u =
          edit_refused img B n W s e r EditRoom
          (edit_10 img (length B) n (length W) good s e (length r) asked
          (λ q. true≢false (sym (le-leb (new_length n s e (length r)) (length B) q.room) ∙ u)))
      go true u =
          edit_done img B n W s e r good asked (record { room = leb-true (new_length n s e (length r)) (length B) u }) refl refl refl refl

  look_up_kept :
      (rule q : ℕ) (b : Bool) → asks11 img n rule q ≡ b → LookUpPromise img B n W rule q (look_up_answer b img W rule q)
  look_up_kept rule q false t =
      look_up_refused img B n W rule q Pair
      (look_up_11 img (length B) n (length W) good rule q
      (λ x.
      true≢false
      (sym (joined (lt-ltb rule (rules img) x.rule_in) (le-leb q n x.position_in)) ∙ t)))
  look_up_kept rule q true t =
      let b = both (ltb rule (rules img)) (leb q n) t in
      look_up_done img B n W rule q good (record { rule_in = ltb-true rule (rules img) b.0; position_in = leb-true q n b.1 }) refl

  a_link : (call : Call) → Link (loan img B n W) call (reply_of (loan img B n W) call) (next_of (loan img B n W) call)
  a_link (edit s e r) = edit_link (edit_kept s e r (asks9 n s e) (asks10 (length B) n s e (length r)) refl refl)
  a_link reading = let x = sheet_passed img (length B) n (length W) good in read_link (reads_are img B n W x.0 x.1)
  a_link (look_up rule q) = look_up_link (look_up_kept rule q (asks11 img n rule q) refl)
  a_link (listing slots) = list_linked img B n W good slots

module _ (ev : Evaluations) (cap : ℕ) (rest : List ℕ) where
  link_from :
      {l : Ledger} {a : Loan} → Holds ev cap rest l a → (call : Call) → Link a call (reply_of a call) (next_of a call)
  link_from {l} (holds {B = B} {W = W} {n = n} v) call =
      a_link l.image B n W (sheet_first l.image (length B) n (length W) l.accepted (lent v)) call

  run_from : {l : Ledger} {a : Loan} → Holds ev cap rest l a → (calls : List Call) → Trace a calls (replies_of a calls) (end_of a calls)
  run_from h [] = done
  run_from {l = l} h (c ∷ cs) = let k = link_from h c in next k (run_from {l = (turn ev cap l c).left} (one_call ev cap rest h k).1 cs)

-- From every accepted opening there is a run of every list of calls.
pub a_run :
    {img text B₀ W₀ B W : List ℕ} {n : ℕ} → OpenPromise img text B₀ W₀ (Ok n) B W
    → (calls : List Call)
    → Trace (loan img B n W) calls (replies_of (loan img B n W) calls) (end_of (loan img B n W) calls)
a_run {img} {text} {B₀} {W₀} p calls =
    run_from evaluations (length B₀) (drop (table_size (rules img) (length B₀)) W₀)
    {l = opened_ledger img (opened_image p).0 text}
    (holds (opening evaluations (opened_image p).0 p)) calls

pub runs_exist : RunsExist
runs_exist = (
  evaluations,
  (λ img text B W a q. record { bytes = _; words = _; opens = an_opening img text B W a q }),
  (λ img text B₀ W₀ B W n p calls. record { answers = _; end = _; run = a_run p calls }),
)

-- Whatever functions give the ledger its evaluations, and however it is known that the image is accepted, its replies are those.
pub ledger_replies :
    {img text B₀ W₀ B W : List ℕ} {n : ℕ} → OpenPromise img text B₀ W₀ (Ok n) B W
    → (accepted : Accepted img) (ev : Evaluations) (calls : List Call)
    → replies_of (loan img B n W) calls ≡ replies ev (length B₀) (opened_ledger img accepted text) calls
ledger_replies {img} {text} {B₀} {W₀} p accepted ev calls =
    (all_calls ev (length B₀) (drop (table_size (rules img) (length B₀)) W₀) (holds (opening ev accepted p)) (a_run p calls)).0
