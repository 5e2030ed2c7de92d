-- What follows from demand 3, for every list of calls from an accepted opening: which numbers occur, and what a reading or a listing
-- answers beside the plain reading of the same text.
use Rattle.grammar.specs.Refusals.{number_in}
use Rattle.std.specs.Prelude.{Ok, Err}
use Rattle.grammar.specs.declared.refusal.Refusal.TheVariants.{Rows}
use Rattle.std.specs.Prelude.{ℕ, ◌≡◌, Bool, true, false, List, [], ◌∷◌, ◌⊎◌, length, take, leb}
use Rattle.grammar.specs.Questions.{Accepted}
use Rattle.reading.specs.Plain.{PlainAnswer}
use Rattle.reading.specs.Plain.{PlainRead}
use Rattle.promises.specs.Answers.{ReadAnswer, ListAnswer}
use Rattle.promises.specs.declared.SheetReading.{SheetReading}
use Rattle.promises.specs.Promises.{OpenPromise}
use Rattle.promises.specs.Reading.{ReadPromise}
use Rattle.promises.specs.Listing.{ListPromise}
use Rattle.ledger.specs.Ledger.{Evaluations, Call, Reply, edits, reads, finds, lists, opened_ledger, rows_in, new_pairs, left_by}
use Rattle.ledger.specs.Demand.{loan, rows_given, Trace}

-- The number of a reply is 0 or one of the questions that the ledger asks: 1 to 8, 12 and 13 are not among them.
abbrev pub LedgersNumber : Reply → Type 0
LedgersNumber (edits a) = (number_in a ≡ 0) ⊎ ((number_in a ≡ 9) ⊎ (number_in a ≡ 10))
LedgersNumber (reads a) = (number_in a ≡ 0) ⊎ (number_in a ≡ 14)
LedgersNumber (finds a) = (number_in a ≡ 0) ⊎ (number_in a ≡ 11)
LedgersNumber (lists a rows) = (number_in a ≡ 0) ⊎ ((number_in a ≡ 14) ⊎ (number_in a ≡ 15))

abbrev pub All : (Reply → Type 0) → List Reply → Type 0
All P [] = Unit {0}
All P (x ∷ xs) = P x × All P xs

abbrev pub OnlyTheseNumbers : Type 0
OnlyTheseNumbers =
    (img text B₀ W₀ B W : List ℕ) (n : ℕ)
    → OpenPromise img text B₀ W₀ (Ok n) B W
    → (calls : List Call) (answers : List Reply) (img' B' W' : List ℕ) (n' : ℕ)
    → Trace (loan img B n W) calls answers (loan img' B' n' W')
    → All LedgersNumber answers

-- The answer of a plain reading as one of a session that evaluated so many pairs.
abbrev pub in_session : PlainAnswer → (evaluations : ℕ) → ReadAnswer
in_session (Ok x) count =
    Ok (record { outcome = x.outcome; length = x.length; examined = x.examined; nesting = x.nesting; evaluations = count })
in_session (Err r) count = Err r

-- A reading after any list of calls, and the plain reading of the text that it was lent: both are refused with 14 or none is, and otherwise
-- outcome, length, examined and nesting are the same; evaluations are the pairs that a fresh reading reaches and that were not held.
abbrev pub AsPlain : Type 0
AsPlain =
    (img text B₀ W₀ B W : List ℕ) (n : ℕ)
    → OpenPromise img text B₀ W₀ (Ok n) B W
    → (accepted : Accepted img) (ev : Evaluations)
    → (calls : List Call) (answers : List Reply) (img' B' W' : List ℕ) (n' : ℕ)
    → Trace (loan img B n W) calls answers (loan img' B' n' W')
    → (a : ReadAnswer) (W'' : List ℕ)
    → ReadPromise img' B' n' W' a W''
    → (x : PlainAnswer)
    → PlainRead img' (take n' B') x
    → (a ≡ in_session x (new_pairs ev (left_by ev (length B₀) (opened_ledger img accepted text) calls)))
    × ((number_in a ≡ 0) ⊎ (number_in a ≡ 14))
    × (take n' B' ≡ (left_by ev (length B₀) (opened_ledger img accepted text) calls).text)

-- The answer of a plain reading as that of a listing in a session that evaluated so many pairs, of a text with rows of these words, where
-- so many row slots are lent.
abbrev pub rows_if : (fit : Bool) → SheetReading → (rows : List ℕ) → ListAnswer
rows_if true x rows = Ok (record { reading = x; rows = length rows })
rows_if false x rows = Err Rows

abbrev pub in_listing : PlainAnswer → (evaluations slots : ℕ) (rows : List ℕ) → ListAnswer
in_listing (Ok x) count slots rows =
    rows_if (leb (length rows) slots)
    (record { outcome = x.outcome; length = x.length; examined = x.examined; nesting = x.nesting; evaluations = count })
    rows
in_listing (Err r) count slots rows = Err r

-- "To it a listing is a reading": a listing after any list of calls is refused with 14 where the plain reading is; otherwise it answers
-- what the plain reading answers, with the number of the text's rows, which are in the row slots then, or 15 exactly where they do not
-- fit.
abbrev pub ListsAsPlain : Type 0
ListsAsPlain =
    (img text B₀ W₀ B W : List ℕ) (n : ℕ)
    → OpenPromise img text B₀ W₀ (Ok n) B W
    → (accepted : Accepted img) (ev : Evaluations)
    → (calls : List Call) (answers : List Reply) (img' B' W' : List ℕ) (n' : ℕ)
    → Trace (loan img B n W) calls answers (loan img' B' n' W')
    → (R : List ℕ) (a : ListAnswer) (W'' R'' : List ℕ)
    → ListPromise img' B' n' W' R a W'' R''
    → (x : PlainAnswer)
    → PlainRead img' (take n' B') x
    → (a
    ≡ in_listing x (new_pairs ev (left_by ev (length B₀) (opened_ledger img accepted text) calls)) (length R)
    (rows_in ev (left_by ev (length B₀) (opened_ledger img accepted text) calls)))
    × (number_in a ≡ 0 → rows_given a R'' ≡ rows_in ev (left_by ev (length B₀) (opened_ledger img accepted text) calls))
