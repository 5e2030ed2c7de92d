-- A listing of demand 3: from the invariant and the listing's promise, the reply is the ledger's, rows included, and the invariant holds
-- again, as after a reading. Assumes nothing.
--     list_step
use Rattle.std.specs.Prelude.{Ok, Err}
use Rattle.grammar.specs.declared.refusal.Refusal.TheVariants.{Nesting}
use Prim.Native.Nat.{ℕ}
use native.Mathlib.Omega.{arith}
use mathlib.Core.Path.{◌≡◌, refl, sym, ap, ◌∙◌, subst}
use mathlib.Core.Bool.{Bool, true, false}
use mathlib.Core.List.{List, ◌++◌}
use lib.ListN.{length, take, drop}
use lib.Seq.{take_at}
use borrow.Author.Tests.{leb-true, leb-false}
use Rattle.grammar.specs.Image.{start}
use Rattle.grammar.specs.Evaluates.{Fresh, a_pair}
use Rattle.rows.specs.Rows.{rows_of, row_words}
use Rattle.promises.specs.Answers.{ReadAnswer, ListAnswer}
use Rattle.promises.specs.declared.SheetReading.{SheetReading}
use Rattle.promises.specs.Listing.{GivesRows, ListedAfter, RefusedAlso, ThenListed, SheetListed, ListPromise}
use Rattle.ledger.specs.Ledger.{Evaluations, Ledger, Turn, Reply, listing, edits, reads, finds, lists, value_in, rows_in}
use Rattle.ledger.specs.Ledger.{passes14, passes15, read_answer, read_turn, list_turn, turn}
use Rattle.ledger.specs.Demand.{rows_given}
use Rattle.promises.proofs.Asked.{sheet_first, sheet_one}
use Rattle.ledger.proofs.Inv.{Inv, cap_is, text_is, lent, not_foreign}
use Rattle.ledger.proofs.StepRead.{sheet_step}

-- The answer of a reading's reply.
abbrev answer_in : Reply → ReadAnswer
answer_in (reads a) = a
answer_in (edits a) = Err Nesting
answer_in (finds a) = Err Nesting
answer_in (lists a rows) = Err Nesting

-- A listing that wrote these rows gave them.
rows_given_lem :
    (x : SheetReading) (rows R R' : List ℕ) → R' ≡ rows ++ drop (length rows) R
    → lists (Ok (record { reading = x; rows = length rows }))
    (rows_given (Ok (record { reading = x; rows = length rows })) R')
    ≡ lists (Ok (record { reading = x; rows = length rows })) rows
rows_given_lem x rows R R' e =
    ap (lists (Ok (record { reading = x; rows = length rows })))
    (ap (take (length rows)) e ∙ take_at rows (drop (length rows) R) (length rows) refl)

module _ {ev : Evaluations} {cap : ℕ} {rest : List ℕ} {l : Ledger} {B : List ℕ} {n : ℕ} {W : List ℕ} (v : Inv ev cap rest l B n W)
    {R : List ℕ} {a : ListAnswer} {W' R' : List ℕ} (s : SheetListed l.image l.text cap W R a W' R')
  where
    start_is : Fresh l.image l.text (a_pair (start l.image)) 0 (value_in ev l (start l.image) 0)
    start_is =
        ev.value_is l.image l.accepted l.text (start l.image) 0 l.accepted.lawful.counts.start_rule (omega arith)

    rows_in_lem : rows_in ev l ≡ row_words (rows_of start_is 0)
    rows_in_lem = ap row_words (ev.rows_are l.image l.accepted l.text start_is)

    abbrev Listed : Turn → Type 0
    Listed t = (lists a (rows_given a R') ≡ t.reply) × Inv ev cap rest t.left B n W'

    -- The reading of the listing is the ledger's.
    first : (reads s.reading ≡ (read_turn ev (passes14 ev l) l).reply) × Inv ev cap rest (read_turn ev (passes14 ev l) l).left B n s.words
    first = sheet_step v s.reads

    deep :
        (reads s.reading ≡ (read_turn ev false l).reply) × Inv ev cap rest (read_turn ev false l).left B n s.words
        → Listed (list_turn ev false (passes15 ev l (length R)) l)
    deep f =
        let e : s.reading ≡ Err Nesting = ap answer_in f.0 in
        let t : RefusedAlso Nesting s.words R a W' R' =
        subst (λ (x : ReadAnswer). ThenListed l.image l.text cap W x s.words R a W' R') e s.then in (
          ap (λ (x : ListAnswer). lists x (rows_given x R')) t.answer_is,
          subst (λ (w : List ℕ). Inv ev cap rest (read_turn ev false l).left B n w) (sym t.words_are) f.1,
        )

    shallow :
        (reads s.reading ≡ (read_turn ev true l).reply) × Inv ev cap rest (read_turn ev true l).left B n s.words
        → Listed (list_turn ev true (passes15 ev l (length R)) l)
    shallow f = go (passes15 ev l (length R)) refl
      where
        t : ListedAfter l.image l.text cap W (read_answer ev l) s.words R a W' R'
        t = subst (λ (x : ReadAnswer). ThenListed l.image l.text cap W x s.words R a W' R') (ap answer_in f.0) s.then

        rows : GivesRows (read_answer ev l) (rows_in ev l) R a R' × (W' ≡ s.words)
        rows =
            subst (λ (ws : List ℕ). GivesRows (read_answer ev l) ws R a R' × (W' ≡ s.words)) (sym rows_in_lem)
            (t.rows_are (not_foreign v) (value_in ev l (start l.image) 0) start_is)

        left : Inv ev cap rest (read_turn ev true l).left B n W'
        left = subst (λ (w : List ℕ). Inv ev cap rest (read_turn ev true l).left B n w) (sym rows.1) f.1

        go : (b : Bool) → passes15 ev l (length R) ≡ b → Listed (list_turn ev true b l)
        go true e =
            let x = rows.0.written (leb-true (length (rows_in ev l)) (length R) e) in (
              ap (λ (y : ListAnswer). lists y (rows_given y R')) x.0 ∙ rows_given_lem (read_answer ev l) (rows_in ev l) R R' x.1,
              left,
            )
        go false e =
            let x = rows.0.too_many (leb-false (length (rows_in ev l)) (length R) e) in
            (ap (λ (y : ListAnswer). lists y (rows_given y R')) x.0, left)

    listing_step : Listed (list_turn ev (passes14 ev l) (passes15 ev l (length R)) l)
    listing_step = go (passes14 ev l) first
      where
        go :
            (b : Bool) → (reads s.reading ≡ (read_turn ev b l).reply) × Inv ev cap rest (read_turn ev b l).left B n s.words
            → Listed (list_turn ev b (passes15 ev l (length R)) l)
        go true f = shallow f
        go false f = deep f

pub list_step :
    {ev : Evaluations} {cap : ℕ} {rest : List ℕ} {l : Ledger} {B : List ℕ} {n : ℕ} {W : List ℕ} → Inv ev cap rest l B n W
    → {R : List ℕ} {a : ListAnswer} {W' R' : List ℕ} → ListPromise l.image B n W R a W' R'
    → (lists a (rows_given a R') ≡ (turn ev cap l (listing (length R))).reply)
    × Inv ev cap rest (turn ev cap l (listing (length R))).left B n W'
unfolding turn
list_step {ev} {cap} {rest} {l} {B} {n} {W} v {R} {a} {W'} {R'} p =
    let none : p.number ≡ 0 =
    sheet_one l.image (length B) n (length W) p.number 0 p.first
    (sheet_first l.image (length B) n (length W) l.accepted (lent v)) in
    listing_step v (rw (text_is v, cap_is v) at (p.listed none))
