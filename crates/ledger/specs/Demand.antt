-- Demand 3: "a single claim about the whole list and not one for each call." Each link of a list is a promise that a call's contract
-- cites.
use Rattle.std.specs.Prelude.{Ok, Err}
use Rattle.std.specs.Prelude.{ℕ, ◌≤◌, ◌<◌, ◌≡◌, true, cond, List, [], ◌∷◌, length, take, drop}
use Rattle.grammar.specs.Image.{rules}
use Rattle.grammar.specs.Questions.{Accepted}
use Rattle.records.specs.Words.{word_of}
use Rattle.packrat.specs.Over.{word_at}
use Rattle.packrat.specs.True.{IsTrue}
use Rattle.editing.specs.Text.{opened}
use Rattle.editing.specs.Table.{table_size}
use Rattle.promises.specs.Answers.{EditAnswer, LookUpAnswer, ReadAnswer, ListAnswer}
use Rattle.promises.specs.Promises.{OpenPromise, EditPromise, LookUpPromise}
use Rattle.promises.specs.Reading.{ReadPromise}
use Rattle.promises.specs.Listing.{ListPromise}
use Rattle.ledger.specs.Ledger.{Evaluations, Call, Reply, edit, reading, look_up, listing, edits, reads, finds, lists}
use Rattle.ledger.specs.Ledger.{Ledger, opened_ledger, value_in, replies, left_by}
use Rattle.promises.specs.Questions.{Question8}

-- What a call is lent: the image, the text buffer, the text's length and the words.
pub data Loan : Type 0 where
  loan : (img B : List ℕ) (n : ℕ) (W : List ℕ) → Loan

-- "Later calls are lent the length that open or the last accepted edit gave."
abbrev pub next_length : ℕ → EditAnswer → ℕ
next_length n (Ok x) = x.length
next_length n (Err k) = n

-- The rows that an answered listing gave: the first of the row slots that it left.
abbrev pub rows_given : ListAnswer → List ℕ → List ℕ
rows_given (Ok x) R = take x.rows R
rows_given (Err k) R = []

-- A call that kept its promise: what it was lent, what it brought, what it answered, and what it left.
pub data Link : Loan → Call → Reply → Loan → Type 0 where
  edit_link :
      {img B W r B' W' : List ℕ} {n s e : ℕ} {a : EditAnswer}
      → EditPromise img B n W s e r a B' W'
      → Link (loan img B n W) (edit s e r) (edits a) (loan img B' (next_length n a) W')
  read_link :
      {img B W W' : List ℕ} {n : ℕ} {a : ReadAnswer}
      → ReadPromise img B n W a W'
      → Link (loan img B n W) reading (reads a) (loan img B n W')
  look_up_link :
      {img B W : List ℕ} {n rule position : ℕ} {a : LookUpAnswer}
      → LookUpPromise img B n W rule position a
      → Link (loan img B n W) (look_up rule position) (finds a) (loan img B n W)
  list_link :
      {img B W R W' R' : List ℕ} {n : ℕ} {a : ListAnswer}
      → ListPromise img B n W R a W' R'
      → Link (loan img B n W) (listing (length R)) (lists a (rows_given a R')) (loan img B n W')

-- "Each call is lent the opening's image and what the call before left, a refused one too."
pub data Trace : Loan → List Call → List Reply → Loan → Type 0 where
  done : {b : Loan} → Trace b [] [] b
  next :
      {a b c : Loan} {call : Call} {reply : Reply} {calls : List Call} {rest : List Reply}
      → Link a call reply b
      → Trace b calls rest c
      → Trace a (call ∷ calls) (reply ∷ rest) c

-- "the buffer holds the ledger's text and then zeros, the slot of each pair that the ledger holds has its true word, and every other table
-- word is 0", in a buffer of cap bytes; and the words after the table are those that it had at first.
pub record Agrees (ev : Evaluations) (cap : ℕ) (rest : List ℕ) (l : Ledger) (B : List ℕ) (n : ℕ) (W : List ℕ) : Type 0 where
  pub text_fits : length l.text ≤ cap
  pub length_is : n ≡ length l.text
  pub bytes_are : B ≡ opened cap l.text
  pub words_are :
      (rule q : ℕ) → rule < rules l.image → q ≤ cap
      → word_at l.image W rule q ≡ cond (l.held rule q) (word_of (value_in ev l rule q)) 0
  pub held_in : (rule q : ℕ) → l.held rule q ≡ true → (rule < rules l.image) × (q ≤ length l.text)
  pub true_words : (rule q : ℕ) → l.held rule q ≡ true → IsTrue l.image l.text rule q (word_at l.image W rule q)
  pub whole_table : table_size (rules l.image) cap ≤ length W
  pub after_table : drop (table_size (rules l.image) cap) W ≡ rest

-- From an accepted opening on, for every list of calls that kept their promises, refused ones too: every reply along the list is the
-- ledger's, and what is left agrees with the ledger. The ledger's replies have no number but 9, 10, 11, 14 and 15. That the image is
-- accepted is no condition: an accepted opening says so (proofs/Demand.antt, `opened_image`); the ledger has it for its evaluations.
abbrev pub Demand3 : Type 0
Demand3 =
    (img text B₀ W₀ B W : List ℕ) (n : ℕ)
    → OpenPromise img text B₀ W₀ (Ok n) B W
    → (accepted : Accepted img) (ev : Evaluations)
    → (calls : List Call) (answers : List Reply) (img' B' W' : List ℕ) (n' : ℕ)
    → Trace (loan img B n W) calls answers (loan img' B' n' W')
    → (answers ≡ replies ev (length B₀) (opened_ledger img accepted text) calls)
    × (img' ≡ (left_by ev (length B₀) (opened_ledger img accepted text) calls).image)
    × Agrees ev (length B₀) (drop (table_size (rules img) (length B₀)) W₀)
    (left_by ev (length B₀) (opened_ledger img accepted text) calls) B' n' W'

-- The claim is about something: there are functions that give the ledger its evaluations; every lent buffer that passes questions 1 to 8
-- has an opening;
pub record AnOpening (img text B W : List ℕ) : Type 0 where
  pub bytes : List ℕ
  pub words : List ℕ
  pub opens : OpenPromise img text B W (Ok (length text)) bytes words

-- and from every accepted opening every list of calls has a run.
pub record ARun (from : Loan) (calls : List Call) : Type 0 where
  pub answers : List Reply
  pub end : Loan
  pub run : Trace from calls answers end

abbrev pub RunsExist : Type 0
RunsExist =
    Evaluations
    × ((img text B W : List ℕ) → Accepted img → Question8 img (length B) (length text) (length W) → AnOpening img text B W)
    × ((img text B₀ W₀ B W : List ℕ) (n : ℕ)
    → OpenPromise img text B₀ W₀ (Ok n) B W
    → (calls : List Call) → ARun (loan img B n W) calls)
