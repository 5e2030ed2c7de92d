-- What follows from demand 3: the numbers that occur along a list of calls, and a reading beside the plain reading of the same text.
-- Assumes nothing.
--     only_these_numbers    1 to 8, 12 and 13 never occur
--     as_plain              a reading answers what the plain reading answers, with the number of pairs reached and not held
--     lists_as_plain        a listing answers that too, with the text's rows, or 15 exactly where they do not fit
use Rattle.grammar.specs.declared.refusal.Refusal.{Refusal}
use Rattle.grammar.specs.Refusals.{number}
use Rattle.grammar.proofs.Refusals.{number_bounds, same_refusal}
use Rattle.grammar.specs.Refusals.{number_in}
use Rattle.std.specs.Prelude.{Ok, Err}
use Rattle.grammar.specs.declared.refusal.Refusal.TheVariants.{Nesting}
use Prim.Native.Nat.{ℕ, ◌≤◌, ◌<◌}
use native.Mathlib.Omega.{arith}
use mathlib.Core.Path.{◌≡◌, refl, sym, ap, ◌∙◌, subst}
use mathlib.Core.Bool.{Bool, true, false, true≢false}
use mathlib.Core.List.{List, [], ◌∷◌}
use mathlib.Core.Logic.{inl, inr}
use lib.ListN.{length, take, drop}
use lib.Dec.{leb, eqb}
use borrow.Author.Tests.{le-leb, lt-leb, eq-eqb, ne_eqb}
use Rattle.grammar.specs.declared.Evaluation.{Evaluation}
use Rattle.grammar.specs.Image.{rules, start}
use Rattle.grammar.specs.Questions.{Question, First, of_image, Accepted}
use Rattle.grammar.specs.Evaluates.{Fresh, bodies_only, a_pair}
use Rattle.grammar.proofs.Determinism.{one}
use Rattle.grammar.proofs.Acceptance.{checked}
use Rattle.reading.specs.declared.plain.Outcome.{Outcome}
use Rattle.reading.specs.declared.plain.Reading.{Reading}
use Rattle.reading.specs.Plain.{PlainAnswer}
use Rattle.reading.specs.Plain.{Says, Reports, ShortText, DepthAllowed, of_plain, PlainRead, outcome_of}
use Rattle.editing.specs.Table.{table_size}
use Rattle.promises.specs.Answers.{ReadAnswer, ListAnswer, sheet_reading}
use Rattle.promises.specs.declared.SheetReading.{SheetReading}
use Rattle.promises.specs.Reading.{ReadPromise}
use Rattle.promises.specs.Listing.{ListPromise}
use Rattle.ledger.specs.Ledger.{Evaluations, Call, edit, reading, look_up, listing, Reply, edits, reads, finds, lists, Ledger, opened_ledger, turn, replies}
use Rattle.ledger.specs.Ledger.{value_in, rows_in, new_pairs, passes9, passes10, passes11, passes14, passes15, edit_turn, read_turn, look_up_turn, list_turn}
use Rattle.ledger.specs.Demand.{loan, rows_given}
use Rattle.ledger.specs.Corollaries.{LedgersNumber, All, OnlyTheseNumbers, in_session, AsPlain, in_listing, rows_if, ListsAsPlain}
use Rattle.promises.proofs.Asked.{first_rest}
use Rattle.grammar.proofs.First.{image_numbers}
use Rattle.ledger.proofs.Fresh.{evaluations}
use Rattle.ledger.proofs.Inv.{Inv, text_is, short_text}
use Rattle.ledger.proofs.StepRead.{read_step}
use Rattle.ledger.proofs.StepList.{list_step}
use Rattle.ledger.proofs.Demand.{opened_image, opening, Holds, holds, all_calls, demand_3}

-- The ledger's numbers.
module _ (ev : Evaluations) (cap : ℕ) where
  edit_number_lem : (a b : Bool) (l : Ledger) (s e : ℕ) (r : List ℕ) → LedgersNumber (edit_turn ev a b l s e r).reply
  edit_number_lem false b l s e r = inr (inl refl)
  edit_number_lem true false l s e r = inr (inr refl)
  edit_number_lem true true l s e r = inl refl

  read_number_lem : (b : Bool) (l : Ledger) → LedgersNumber (read_turn ev b l).reply
  read_number_lem false l = inr refl
  read_number_lem true l = inl refl

  look_up_number_lem : (b : Bool) (l : Ledger) (rule q : ℕ) → LedgersNumber (look_up_turn ev b l rule q).reply
  look_up_number_lem false l rule q = inr refl
  look_up_number_lem true l rule q = inl refl

  list_number_lem : (a b : Bool) (l : Ledger) → LedgersNumber (list_turn ev a b l).reply
  list_number_lem false b l = inr (inl refl)
  list_number_lem true false l = inr (inr refl)
  list_number_lem true true l = inl refl

  turn_number : (l : Ledger) (call : Call) → LedgersNumber (turn ev cap l call).reply
  unfolding turn
  turn_number l (edit s e r) = edit_number_lem (passes9 l s e) (passes10 cap l s e r) l s e r
  turn_number l reading = read_number_lem (passes14 ev l) l
  turn_number l (look_up rule q) = look_up_number_lem (passes11 l rule q) l rule q
  turn_number l (listing slots) = list_number_lem (passes14 ev l) (passes15 ev l slots) l

  all_numbers : (l : Ledger) (calls : List Call) → All LedgersNumber (replies ev cap l calls)
  unfolding replies
  all_numbers l [] = tt
  all_numbers l (c ∷ cs) = (turn_number l c, all_numbers (turn ev cap l c).left cs)

pub only_these_numbers : OnlyTheseNumbers
only_these_numbers img text B₀ W₀ B W n p calls answers img' B' W' n' t =
    let accepted = (opened_image p).0 in
    let x = demand_3 img text B₀ W₀ B W n p accepted evaluations calls answers img' B' W' n' t in
    subst (All LedgersNumber) (sym x.0) (all_numbers evaluations (length B₀) (opened_ledger img accepted text) calls)

-- The answer of a listing's reply, and its rows.
abbrev listing_in : Reply → ListAnswer
listing_in (edits a) = Err Nesting
listing_in (reads a) = Err Nesting
listing_in (finds a) = Err Nesting
listing_in (lists a rows) = a

abbrev rows_of_reply : Reply → List ℕ
rows_of_reply (edits a) = []
rows_of_reply (reads a) = []
rows_of_reply (finds a) = []
rows_of_reply (lists a rows) = rows

-- The outcome that a reading says.
outcome_is : (o : Outcome) (n : ℕ) (z : Evaluation) → Says o n z → o ≡ outcome_of z.matched (eqb z.length n)
outcome_is Outcome.Whole n z (m, e) = sym ((λ i. outcome_of (m i) (eqb z.length n)) ∙ ap (outcome_of true) (eq-eqb z.length n e))
outcome_is Outcome.Part n z (m, e) =
    sym ((λ i. outcome_of (m i) (eqb z.length n)) ∙ ap (outcome_of true) (ne_eqb z.length n (λ f. omega arith)))
outcome_is Outcome.Nothing n z m = sym (λ i. outcome_of (m i) (eqb z.length n))

-- The answer by whether the nesting of the start pair's evaluation is allowed.
abbrev Answered : (n : ℕ) → Evaluation → Bool → PlainAnswer → ℕ → Type 0
Answered n z true x count = Ok (sheet_reading n z count) ≡ in_session x count
Answered n z false x count = Err Nesting ≡ in_session x count

-- A plain reading of a short text by an accepted image answers the start pair's evaluation, or 14.
module _ (img text : List ℕ) (accepted : Accepted img) (short : length text ≤ 65535) (z : Evaluation)
    (e : Fresh img text (a_pair (start img)) 0 z)
  where
    abbrev last_two : List Question
    last_two = record { number = 8; holds = ShortText text } ∷ record { number = 14; holds = DepthAllowed img text } ∷ []

    own : (k : ℕ) → First (of_plain img text) k → First last_two k
    own k f = first_rest (of_image img) last_two k (image_numbers img) (checked accepted).first f

    allowed : (k : ℕ) → First last_two k → k ≡ 0 → z.nesting ≤ 4096
    allowed k (inl a) f = absurd (let g = a.1 in omega arith)
    allowed k (inr (q, inl a)) f = absurd (let g = a.1 in omega arith)
    allowed k (inr (q, inr (d, g))) f =
        let same = ap (λ (x : Evaluation). x.nesting) (one img text bodies_only d.evaluated e) in
        omega (arith, d.allowed)

    is-14 : (k : ℕ) → First last_two k → 1 ≤ k → k ≡ 14
    is-14 k (inl a) h = absurd (a.0 (record { short = short }))
    is-14 k (inr (q, inl a)) h = a.1
    is-14 k (inr (q, inr (d, g))) h = absurd (omega arith)

    reported :
        (y : Reading) (v : Evaluation) (count : ℕ) → v ≡ z → Reports (length text) v y
        → Ok (sheet_reading (length text) z count) ≡ in_session (Ok y) count
    reported y v count f r =
        ap (λ (x : Evaluation). Ok (sheet_reading (length text) x count)) (sym f)
        ∙ sym
        (λ i.
        Ok
        (record {
          outcome = outcome_is y.outcome (length text) v r.outcome_is i;
          length = r.length_is i;
          examined = r.examined_is i;
          nesting = r.nesting_is i;
          evaluations = count;
        }))

    plain-answer : (x : PlainAnswer) (count : ℕ) → PlainRead img text x → Answered (length text) z (leb z.nesting 4096) x count
    plain-answer (Ok y) count p =
        subst (λ (b : Bool). Answered (length text) z b (Ok y) count)
        (sym (le-leb z.nesting 4096 (allowed 0 (own 0 p.first) refl)))
        (reported y p.values.value count (one img text bodies_only p.values.evaluated e) p.values.reports)
    plain-answer (Err k) count p =
        let n = same_refusal (is-14 (number k) (own (number k) p.first) (number_bounds k).0) in
        let d = p.values n in
        let same = ap (λ (x : Evaluation). x.nesting) (one img text bodies_only d.evaluated e) in
        let deep : 4096 < z.nesting = omega (arith, d.above) in
        subst (λ (b : Bool). Answered (length text) z b (Err k) count)
        (sym (lt-leb z.nesting 4096 deep)) (ap Err (sym n))

-- The reading of an answer that has one.
abbrev reading_or : ReadAnswer → SheetReading
reading_or (Ok x) = x
reading_or (Err r) = record { outcome = Outcome.Nothing; length = 0; examined = 0; nesting = 0; evaluations = 0 }

abbrev is_read : ReadAnswer → Bool
is_read (Ok x) = true
is_read (Err k) = false

refused_not_read : {x : SheetReading} {r : Refusal} → ◌≡◌ {A = ReadAnswer} (Ok x) (Err r) → ⊥
refused_not_read e = true≢false (ap is_read e)

-- The plain reading of the ledger's text.
module _ {ev : Evaluations} {cap : ℕ} {rest : List ℕ} {l : Ledger} {B : List ℕ} {n : ℕ} {W : List ℕ} (v : Inv ev cap rest l B n W)
    (x : PlainAnswer) (q : PlainRead l.image (take n B) x)
  where
    given : Answered (length l.text) (value_in ev l (start l.image) 0) (passes14 ev l) x (new_pairs ev l)
    given =
        plain-answer l.image l.text l.accepted (short_text v) (value_in ev l (start l.image) 0)
        (ev.value_is l.image l.accepted l.text (start l.image) 0 l.accepted.lawful.counts.start_rule (omega arith))
        x
        (new_pairs ev l)
        (subst (λ (text : List ℕ). PlainRead l.image text x) (text_is v) q)

    by-nesting :
        (b : Bool) → Answered (length l.text) (value_in ev l (start l.image) 0) b x (new_pairs ev l)
        → (read_turn ev b l).reply ≡ reads (in_session x (new_pairs ev l))
    by-nesting true f = ap reads f
    by-nesting false f = ap reads f

    plain_step :
        {a : ReadAnswer} {W' : List ℕ} → ReadPromise l.image B n W a W'
        → (a ≡ in_session x (new_pairs ev l)) × LedgersNumber (reads a) × (take n B ≡ l.text)
    unfolding turn
    plain_step {a} p =
        let e : reads a ≡ (read_turn ev (passes14 ev l) l).reply = (read_step v p).0 in
        let f = by-nesting (passes14 ev l) given in
        (cc, subst LedgersNumber (sym e) (read_number_lem ev cap (passes14 ev l) l), text_is v)

    -- A listing: the answer that the plain reading's is made into.
    abbrev AsListing : (slots : ℕ) (a : ListAnswer) (rows : List ℕ) → Type 0
    AsListing slots a rows = (a ≡ in_listing x (new_pairs ev l) slots (rows_in ev l)) × (number_in a ≡ 0 → rows ≡ rows_in ev l)

    -- By the answers to questions 14 and 15.
    by-questions :
        (slots : ℕ) (b c : Bool) → passes15 ev l slots ≡ c → (y : PlainAnswer)
        → Answered (length l.text) (value_in ev l (start l.image) 0) b y (new_pairs ev l)
        → listing_in (list_turn ev b c l).reply ≡ in_listing y (new_pairs ev l) slots (rows_in ev l)
    by-questions slots false c e (Ok y) f = absurd (let z : ◌≡◌ {A = ℕ} 14 0 = ap number_in f in omega arith)
    by-questions slots false c e (Err k) f = ap Err (same_refusal (ap number_in f))
    by-questions slots true c e (Err k) f = absurd (refused_not_read f)
    by-questions slots true true e (Ok y) f =
        ap (λ (r : ReadAnswer). Ok (record { reading = reading_or r; rows = length (rows_in ev l) })) f
        ∙ ap (λ (b : Bool). rows_if b (reading_or (in_session (Ok y) (new_pairs ev l))) (rows_in ev l)) (sym e)
    by-questions slots true false e (Ok y) f =
        ap (λ (b : Bool). rows_if b (reading_or (in_session (Ok y) (new_pairs ev l))) (rows_in ev l)) (sym e)

    -- An answered listing's reply has the ledger's rows.
    by_number : (b c : Bool) → number_in (listing_in (list_turn ev b c l).reply) ≡ 0 → rows_of_reply (list_turn ev b c l).reply ≡ rows_in ev l
    by_number false c e = absurd (omega arith)
    by_number true false e = absurd (omega arith)
    by_number true true e = refl

    list-plain :
        {R : List ℕ} {a : ListAnswer} {W' R' : List ℕ} → ListPromise l.image B n W R a W' R'
        → AsListing (length R) a (rows_given a R')
    unfolding turn
    list-plain {R} {a} {W'} {R'} p =
        let e : lists a (rows_given a R') ≡ (list_turn ev (passes14 ev l) (passes15 ev l (length R)) l).reply = (list_step v p).0 in (
          ap listing_in e ∙ by-questions (length R) (passes14 ev l) (passes15 ev l (length R)) refl x given,
          λ k.
              ap rows_of_reply e
              ∙ by_number (passes14 ev l) (passes15 ev l (length R)) (sym (ap (λ (r : Reply). number_in (listing_in r)) e) ∙ k),
        )

plain_after :
    (ev : Evaluations) (cap : ℕ) (rest : List ℕ) {l : Ledger} {img B W : List ℕ} {n : ℕ} → Holds ev cap rest l (loan img B n W)
    → (a : ReadAnswer) (W' : List ℕ) → ReadPromise img B n W a W'
    → (x : PlainAnswer) → PlainRead img (take n B) x
    → (a ≡ in_session x (new_pairs ev l)) × LedgersNumber (reads a) × (take n B ≡ l.text)
plain_after ev cap rest (holds v) a W' p x q = plain_step v x q p

list_after :
    (ev : Evaluations) (cap : ℕ) (rest : List ℕ) {l : Ledger} {img B W : List ℕ} {n : ℕ} → Holds ev cap rest l (loan img B n W)
    → (R : List ℕ) (a : ListAnswer) (W' R' : List ℕ) → ListPromise img B n W R a W' R'
    → (x : PlainAnswer) → PlainRead img (take n B) x
    → (a ≡ in_listing x (new_pairs ev l) (length R) (rows_in ev l)) × (number_in a ≡ 0 → rows_given a R' ≡ rows_in ev l)
list_after ev cap rest (holds v) R a W' R' p x q = list-plain v x q p

pub as_plain : AsPlain
as_plain img text B₀ W₀ B W n p accepted ev calls answers img' B' W' n' t a W'' r x q =
    let rest = drop (table_size (rules img) (length B₀)) W₀ in
    plain_after ev (length B₀) rest
    (all_calls ev (length B₀) rest {l = opened_ledger img accepted text} (holds (opening ev accepted p)) t).1
    a W'' r x q

pub lists_as_plain : ListsAsPlain
lists_as_plain img text B₀ W₀ B W n p accepted ev calls answers img' B' W' n' t R a W'' R'' r x q =
    let rest = drop (table_size (rules img) (length B₀)) W₀ in
    list_after ev (length B₀) rest
    (all_calls ev (length B₀) rest {l = opened_ledger img accepted text} (holds (opening ev accepted p)) t).1
    R a W'' R'' r x q
