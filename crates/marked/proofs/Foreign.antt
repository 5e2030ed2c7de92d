-- Witnesses for the guards of a reading's and a listing's promise over words that are not true: on "12a" by D2, what keeps the reading's
-- promise answers what an untrue start word says; where the start word is held and impossible, a reading and a listing give 12.
-- Assumes nothing.
use Rattle.grammar.specs.Refusals.{number_in}
use Rattle.std.specs.Prelude.{Ok, Err}
use Rattle.grammar.specs.declared.refusal.Refusal.TheVariants.{Records}
use Prim.Native.Nat.{ℕ}
use native.Mathlib.Omega.{arith}
use mathlib.Core.Path.{◌≡◌, refl}
use mathlib.Core.List.{List, ◌∷◌}
use lib.ListN.{replicate}
use Rattle.grammar.specs.Image.{rules, start}
use Rattle.grammar.specs.Questions.{First}
use Rattle.grammar.specs.Evaluates.{ev_record}
use Rattle.grammar.proofs.Acceptance.{accepted}
use Rattle.evaluation.specs.Calls.{bodies_of, is_in}
use Rattle.evaluation.specs.Counts.{sum_to}
use Rattle.records.specs.Words.{value_of, matched_of, nesting_of, examined_of, length_of, spare_of, possible}
use Rattle.records.specs.Slots.{slot_of}
use Rattle.packrat.specs.Over.{over}
use Rattle.reading.specs.declared.plain.Outcome.{Outcome}
use Rattle.promises.specs.Answers.{ReadAnswer, ListAnswer}
use Rattle.promises.specs.Questions.{of_sheet}
use Rattle.promises.specs.Reading.{SheetRead, ReadPromise}
use Rattle.promises.specs.Listing.{ListPromise}
use Rattle.promises.proofs.Asked.{sheet_one, sheet_first}
use Rattle.promises.proofs.SheetLists.{impossible_listed}
use Rattle.marked.specs.Images.{D2}
use Rattle.marked.specs.Sessions.{text12a}
use Rattle.marked.proofs.Images.{d2_accepted}

-- A buffer of the three bytes, and a table with that start word and zeros.
abbrev lent_words : ℕ → List ℕ
lent_words word = word ∷ replicate 7 0

two_rules : rules D2 ≡ 2
unfolding rules D2
two_rules = refl

-- Questions 1 to 8 hold.
asked : {k : ℕ} → First (of_sheet D2 3 3 8) k → k ≡ 0
asked {k} f =
    sheet_one D2 3 3 8 k 0 f
    (sheet_first D2 3 3 8 (accepted d2_accepted)
    (record { short = omega arith; text_fits = omega arith; whole_table = omega (arith, two_rules) }))

read :
    {word : ℕ} {a : ReadAnswer} {W' : List ℕ} → ReadPromise D2 text12a 3 (lent_words word) a W'
    → SheetRead D2 text12a 3 (lent_words word) a W'
read p = p.read (asked p.first)

pub untrue_word_taken :
    {a : ReadAnswer} {W' : List ℕ}
    → ReadPromise D2 text12a 3 (lent_words 0xC000000200010001) a W'
    → a ≡ Ok (record { outcome = Outcome.Part; length = 1; examined = 1; nesting = 1; evaluations = 0 })
unfolding over value_of matched_of nesting_of examined_of length_of spare_of possible slot_of rules start bodies_of is_in sum_to D2
untrue_word_taken p = ((read p).determinate (value_of 0xC000000200010001) (ev_record refl) (omega arith)).answer_is

pub impossible_word_refused :
    {a : ReadAnswer} {W' : List ℕ} → ReadPromise D2 text12a 3 (lent_words 0xC000000000000000) a W' → number_in a ≡ 12
unfolding matched_of nesting_of examined_of length_of spare_of possible slot_of rules start D2
impossible_word_refused p = (read p).impossible refl refl

pub impossible_word_not_listed :
    {R : List ℕ} {a : ListAnswer} {W' R' : List ℕ} → ListPromise D2 text12a 3 (lent_words 0xC000000000000000) R a W' R'
    → (a ≡ Err Records) × (W' ≡ replicate 8 0) × (R' ≡ R)
unfolding matched_of nesting_of examined_of length_of spare_of possible slot_of rules start D2
impossible_word_not_listed p =
    let x = impossible_listed (p.listed (asked p.first)) refl refl in (x.answer_is, x.words_are, x.slots_are)
