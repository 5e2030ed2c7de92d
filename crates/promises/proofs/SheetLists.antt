-- What a listing makes of the start pair's run over the lent words and of the walk over the words that the run left keeps the listing's
-- promise, whatever the words are. Assumes nothing.
--     written_listed, stopped_listed    where the run answers, by cases of the walk
--     refused_listed                    where it is refused
--     impossible_listed                 where the start word is held and impossible
--     lists_unasked, lists_done         the whole promise: where one of questions 1 to 8 fails, and where none does
use Rattle.grammar.specs.declared.refusal.Refusal.{Refusal}
use Rattle.grammar.specs.Refusals.{number}
use Rattle.grammar.proofs.Refusals.{number_bounds, same_refusal}
use Rattle.grammar.specs.Refusals.{number_in}
use Rattle.std.specs.Prelude.{Ok, Err}
use Rattle.grammar.specs.declared.refusal.Refusal.TheVariants.{Records, Rows}
use Prim.Native.Nat.{ℕ, ◌≤◌}
use native.Mathlib.Omega.{arith}
use mathlib.Core.Path.{◌≡◌, refl, sym, ap, ◌∙◌, subst}
use mathlib.Core.Bool.{Bool, true, false}
use mathlib.Core.List.{List, ◌++◌}
use mathlib.Core.Logic.{inl, inr}
use lib.ListN.{length, take, drop}
use lib.Dec.{leb, eqb}
use borrow.Author.Tests.{leb-true, leb-false}
use Rattle.grammar.specs.declared.Evaluation.{Evaluation}
use Rattle.grammar.specs.Image.{rules, start}
use Rattle.grammar.specs.Questions.{First, Accepted}
use Rattle.grammar.specs.Evaluates.{Fresh, a_pair}
use Rattle.packrat.specs.Model.{answered, refused, Out, out}
use Rattle.records.specs.Words.{is_held, possible}
use Rattle.records.proofs.Slots.{size_up}
use Rattle.loaded.specs.declared.form.LoadedGrammar.{LoadedGrammar}
use Rattle.loaded.specs.Loaded.{Loaded}
use Rattle.packrat.specs.Over.{word_at}
use Rattle.packrat.specs.Session.{start_run}
use Rattle.packrat.proofs.TrueReads.{start_reads, start_deep}
use Rattle.rows.specs.Rows.{rows_of, row_words}
use Rattle.rows.specs.Walk.{walked, stopped, Trail, trail, start_v}
use Rattle.rows.specs.Bounds.{Stops, impossible, too_deep, no_slot}
use Rattle.rows.specs.Fits.{Fits, rows_fit, too_many}
use Rattle.rows.proofs.Listed.{reading_lists}
use Rattle.editing.specs.Table.{table_size, cleared_table}
use Rattle.promises.specs.Answers.{ReadAnswer, ListAnswer, sheet_reading}
use Rattle.promises.specs.declared.SheetReading.{SheetReading}
use Rattle.promises.specs.Questions.{of_sheet}
use Rattle.promises.specs.Reading.{NotForeign, SheetRead}
use Rattle.promises.specs.Listing.{GivesRows, listed, no_slots, zeroed, RefusedAlso, ThenListed, SheetListed, ListPromise, ListedAfter}
use Rattle.promises.specs.Run.{answer_of, words_of, stopped_words}
use Rattle.promises.proofs.SheetReads.{sheet_read}

-- The words of a walk, and the number of one that stopped.
abbrev given : Trail → List ℕ
given (trail a ws) = ws

abbrev stop_of : Trail → ℕ
stop_of (trail (walked m l c) ws) = 0
stop_of (trail (stopped r) ws) = number r

-- The table and the answer that a run left.
abbrev left_in : Out → List ℕ
left_in (out a t c) = t

abbrev refusal_of : Out → ℕ
refusal_of (out (answered z) t c) = 0
refusal_of (out (refused r) t c) = number r

-- What a walk that fits or not says of the rows.
all_written :
    (x : SheetReading) {m m' : Bool} {len len' c : ℕ} {rows ws R : List ℕ} {o : Trail}
    → Fits (length R) 0 m len ws o → o ≡ trail (walked m' len' c) rows
    → GivesRows x ws R (Ok (record { reading = x; rows = length rows })) (rows ++ drop (length rows) R)
all_written x {rows = rows} {ws = ws} {R = R} (rows_fit h e) f =
    let same : rows ≡ ws = ap given (sym f ∙ e) in
    rw same (record { written = λ h. (refl, refl); too_many = λ l. absurd (omega arith) })
all_written x (too_many h t e) f = absurd (let z : 0 ≡ 15 = ap stop_of (sym f ∙ e) in omega arith)

none_written :
    (x : SheetReading) {m : Bool} {len : ℕ} {ws R e : List ℕ} {o : Trail}
    → Fits (length R) 0 m len ws o → o ≡ trail (stopped Rows) e → GivesRows x ws R (Err Rows) R
none_written x (rows_fit h e) f = absurd (let z : 15 ≡ 0 = ap stop_of (sym f ∙ e) in omega arith)
none_written x (too_many h t e) f = record { written = λ l. absurd (omega arith); too_many = λ l. (refl, refl) }

no_other :
    {m : Bool} {len room : ℕ} {r : Refusal} {ws e : List ℕ} {o : Trail} → (number r ≡ 15 → ⊥) → Fits room 0 m len ws o → o ≡ trail (stopped r) e → ⊥
no_other {r = r} n (rows_fit h e) f = let b = number_bounds r in absurd (let z : number r ≡ 0 = ap stop_of (sym f ∙ e) in omega arith)
no_other n (too_many h t e) f = n (ap stop_of (sym f ∙ e))

module _ (img text : List ℕ) (cap : ℕ) (W R : List ℕ) (accepted : Accepted img) (small : cap ≤ 65535) (fits : length text ≤ cap)
    (whole : table_size (rules img) cap ≤ length W) {g : LoadedGrammar} (loaded : Loaded img g)
  where
    short : length text ≤ 65535
    short = omega arith

    -- The reading, by what the run is.
    the-reading : {o : Out} → start_run img text W 0 ≡ o → SheetRead img text cap W (answer_of (length text) o) (words_of img cap o)
    the-reading e =
        subst (λ (o : Out). SheetRead img text cap W (answer_of (length text) o) (words_of img cap o)) e
        (sheet_read img text cap W accepted small fits whole)

    pub refused_listed :
        {k : Refusal} {count : ℕ} {table : List ℕ} → start_run img text W 0 ≡ out (refused k) table count
        → SheetListed img text cap W R (Err k) (cleared_table (rules img) cap table) R
    refused_listed {k} {count} {table} e =
        record {
          reading = Err k;
          words = cleared_table (rules img) cap table;
          reads = the-reading e;
          then = record { answer_is = refl; words_are = refl; slots_are = refl };
        }

    module _ {z : Evaluation} {words : List ℕ} {count : ℕ} (e : start_run img text W 0 ≡ out (answered z) words count) where
      -- Over a table without foreign records the walk ends as the rows say.
      walk-fits :
          NotForeign img text W → (y : Evaluation) (d : Fresh img text (a_pair (start img)) 0 y)
          → Fits (length R) 0 y.matched y.length (row_words (rows_of d 0)) (start_v (length R) g text words 0 (length text))
      walk-fits f y d = go (leb y.nesting 4096) refl
        where
          go :
              (b : Bool) → leb y.nesting 4096 ≡ b
              → Fits (length R) 0 y.matched y.length (row_words (rows_of d 0)) (start_v (length R) g text words 0 (length text))
          go true k =
              let deep = leb-true y.nesting 4096 k in
              let reads =
              start_reads img text W accepted short f.true_words d
              (let a = size_up (rules img) (length text) cap fits in omega arith) f.closed deep 0 in
              let same : reads.after ≡ words = ap left_in (sym reads.is ∙ e) in
              subst
              (λ (t : List ℕ).
              Fits (length R) 0 y.matched y.length (row_words (rows_of d 0)) (start_v (length R) g text t 0 (length text)))
              same
              (reading_lists img text W accepted short loaded (length R) d deep reads)
          go false k =
              let deep = start_deep img text W accepted short f.true_words d (leb-false y.nesting 4096 k) 0 in
              absurd (let x : 0 ≡ 14 = ap refusal_of (sym e ∙ deep.is) in omega arith)

      then_listed :
          {a : ListAnswer} {W' R' : List ℕ} → ListedAfter img text cap W (sheet_reading (length text) z count) words R a W' R'
          → SheetListed img text cap W R a W' R'
      then_listed then =
          record { reading = Ok (sheet_reading (length text) z count); words = words; reads = the-reading e; then = then }

      pub written_listed :
          {m : Bool} {len c : ℕ} {rows : List ℕ} → start_v (length R) g text words 0 (length text) ≡ trail (walked m len c) rows
          → length rows ≤ length R
          → SheetListed img text cap W R
          (Ok (record { reading = sheet_reading (length text) z count; rows = length rows })) words
          (rows ++ drop (length rows) R)
      written_listed {rows = rows} w fit =
          then_listed (record { ends = listed rows fit; rows_are = λ f y d. (all_written (sheet_reading (length text) z count) (walk-fits f y d) w, refl) })

      pub stopped_listed :
          {k : Refusal} {rows : List ℕ} → start_v (length R) g text words 0 (length text) ≡ trail (stopped k) rows
          → Stops k
          → SheetListed img text cap W R (Err k) (stopped_words (eqb (number k) 15) img cap words) R
      stopped_listed w no_slot =
          then_listed (record { ends = no_slots; rows_are = λ f y d. (none_written (sheet_reading (length text) z count) (walk-fits f y d) w, refl) })
      stopped_listed w impossible =
          then_listed (record { ends = zeroed (inl refl); rows_are = λ f y d. absurd (no_other (λ z. omega arith) (walk-fits f y d) w) })
      stopped_listed w too_deep =
          then_listed (record { ends = zeroed (inr refl); rows_are = λ f y d. absurd (no_other (λ z. omega arith) (walk-fits f y d) w) })

-- "gives 12 when the word of (start, 0) is held and impossible": a listing too, and then it leaves the row slots and zeroes the table.
module _ {img text : List ℕ} {cap : ℕ} {W R : List ℕ} {a : ListAnswer} {W' R' : List ℕ} (s : SheetListed img text cap W R a W' R')
    (h : is_held (word_at img W (start img) 0) ≡ true) (p : possible (word_at img W (start img) 0) 0 (length text) ≡ false)
  where
    by_answer :
        (r : ReadAnswer) → s.reading ≡ r → number_in r ≡ 12 → ThenListed img text cap W r s.words R a W' R'
        → RefusedAlso Records (cleared_table (rules img) cap W) R a W' R'
    by_answer (Ok x) f e t = absurd (omega arith)
    by_answer (Err k) f e t =
        record {
          answer_is = t.answer_is ∙ ap Err (same_refusal e);
          words_are = t.words_are ∙ s.reads.zeroed k f;
          slots_are = t.slots_are;
        }

    pub impossible_listed : RefusedAlso Records (cleared_table (rules img) cap W) R a W' R'
    impossible_listed = by_answer s.reading refl (s.reads.impossible h p) s.then

-- A listing that fails one of questions 1 to 8.
pub lists_unasked :
    (img B : List ℕ) (n : ℕ) (W R : List ℕ) (r : Refusal) → First (of_sheet img (length B) n (length W)) (number r)
    → ListPromise img B n W R (Err r) W R
lists_unasked img B n W R r f =
    record { number = number r; first = f; refused = λ l. (refl, refl, refl); listed = λ e. absurd (let b = number_bounds r in omega arith) }

-- One that passes them.
pub lists_done :
    (img B : List ℕ) (n : ℕ) (W R : List ℕ) → First (of_sheet img (length B) n (length W)) 0
    → {a : ListAnswer} {W' R' : List ℕ} → SheetListed img (take n B) (length B) W R a W' R'
    → ListPromise img B n W R a W' R'
lists_done img B n W R good s = record { number = 0; first = good; refused = λ h. absurd (omega arith); listed = λ e. s }
