-- A session's line by computation: where the calls as functions give these replies, the ledger and every run do. And one of a text that is
-- nested too deeply to compute. Assumes nothing.
use Rattle.std.specs.Prelude.{Ok, Err}
use Rattle.grammar.specs.declared.refusal.Refusal.TheVariants.{Nesting}
use Prim.Native.Nat.{ℕ, ◌≤◌}
use native.Mathlib.Omega.{arith}
use mathlib.Core.Path.{◌≡◌, sym, ap, ◌∙◌}
use mathlib.Core.Bool.{Bool, false}
use mathlib.Core.List.{List, [], ◌∷◌, ◌++◌, append-nil}
use lib.ListN.{length, replicate, length-replicate, drop_of_length-le}
use borrow.Author.Tests.{lt-leb}
use Rattle.grammar.specs.declared.Evaluation.{Evaluation}
use Rattle.grammar.specs.Image.{rules, start}
use Rattle.grammar.specs.Questions.{Accepted}
use Rattle.grammar.specs.Evaluates.{bodies_only}
use Rattle.grammar.proofs.Determinism.{one}
use Rattle.reading.specs.Plain.{TooDeep}
use Rattle.editing.specs.Text.{opened}
use Rattle.editing.specs.Table.{table_size, cleared_table}
use Rattle.promises.specs.Promises.{OpenPromise}
use Rattle.ledger.specs.Ledger.{Evaluations, Call, reading, listing, Reply, reads, lists, opened_ledger, replies, turn}
use Rattle.ledger.specs.Ledger.{passes14, passes15, read_turn, list_turn}
use Rattle.ledger.specs.Demand.{loan}
use Rattle.ledger.specs.Sessions.{SessionSays}
use Rattle.ledger.proofs.Demand.{demand_3}
use Rattle.ledger.proofs.Fresh.{evaluations}
use Rattle.ledger.proofs.Runs.{an_opening, ledger_replies, replies_of}

module _ (img text : List ℕ) (cap : ℕ) (accepted : Accepted img) (small : cap ≤ 65535) (fits : length text ≤ cap) where
  -- A table of zeros, cleared.
  cleared : cleared_table (rules img) cap (replicate (table_size (rules img) cap) 0) ≡ replicate (table_size (rules img) cap) 0
  cleared =
      ap (λ (l : List ℕ). replicate (table_size (rules img) cap) 0 ++ l)
      (drop_of_length-le (replicate (table_size (rules img) cap) 0) {i = table_size (rules img) cap}
      (let e = length-replicate {A = ℕ} (table_size (rules img) cap) 0 in omega arith))
      ∙ append-nil (replicate (table_size (rules img) cap) 0)

  -- An opening over a buffer and a table of zeros.
  an_opened :
      OpenPromise img text (replicate cap 0) (replicate (table_size (rules img) cap) 0) (Ok (length text)) (opened cap text)
      (replicate (table_size (rules img) cap) 0)
  an_opened =
      let long = length-replicate {A = ℕ} cap 0 in
      let words = length-replicate {A = ℕ} (table_size (rules img) cap) 0 in
      let p =
      an_opening img text (replicate cap 0) (replicate (table_size (rules img) cap) 0) accepted
      (record { short = rw long small; text_fits = rw long fits; whole_table = rw (long, words) (omega arith) }) in
      rw (long, cleared) at p

  pub ledger_computed :
      (ev : Evaluations) (calls : List Call)
      → replies ev cap (opened_ledger img accepted text) calls
      ≡ replies_of (loan img (opened cap text) (length text) (replicate (table_size (rules img) cap) 0)) calls
  ledger_computed ev calls =
      sym
      (ledger_replies an_opened accepted ev calls
      ∙ ap (λ (c : ℕ). replies ev c (opened_ledger img accepted text) calls) (length-replicate cap 0))

  -- A session, from the ledger's replies.
  by_ledger :
      (calls : List Call) (answers : List Reply)
      → ((ev : Evaluations) → replies ev cap (opened_ledger img accepted text) calls ≡ answers)
      → SessionSays img text cap calls answers
  by_ledger calls answers e =
      record {
        accepted = accepted;
        lent = record { short = small; text_fits = fits; whole_table = omega arith };
        ledger = e;
        runs = λ B₀ W₀ B W n long p given img' B' W' n' t.
            (demand_3 img text B₀ W₀ B W n p accepted evaluations calls given img' B' W' n' t).0
            ∙ ap (λ (c : ℕ). replies evaluations c (opened_ledger img accepted text) calls) long
            ∙ e evaluations;
      }

  pub session_says :
      (calls : List Call) (answers : List Reply)
      → replies_of (loan img (opened cap text) (length text) (replicate (table_size (rules img) cap) 0)) calls ≡ answers
      → SessionSays img text cap calls answers
  session_says calls answers e = by_ledger calls answers (λ ev. ledger_computed ev calls ∙ e)

  -- Where the start pair's nesting is above 4,096.
  pub session_deep :
      TooDeep img text → (slots : ℕ)
      → SessionSays img text cap (reading ∷ listing slots ∷ []) (reads (Err Nesting) ∷ lists (Err Nesting) [] ∷ [])
  unfolding replies turn
  session_deep deep slots = by_ledger (reading ∷ listing slots ∷ []) (reads (Err Nesting) ∷ lists (Err Nesting) [] ∷ []) given
    where
      fails : (ev : Evaluations) → passes14 ev (opened_ledger img accepted text) ≡ false
      fails ev =
          let e = ev.value_is img accepted text (start img) 0 accepted.lawful.counts.start_rule (omega arith) in
          let same = ap (λ (x : Evaluation). x.nesting) (one img text bodies_only deep.evaluated e) in
          lt-leb (ev.value img accepted text (start img) 0).nesting 4096 (omega (arith, deep.above))

      given :
          (ev : Evaluations)
          → replies ev cap (opened_ledger img accepted text) (reading ∷ listing slots ∷ [])
          ≡ reads (Err Nesting) ∷ lists (Err Nesting) [] ∷ []
      given ev =
          let l = opened_ledger img accepted text in
          ap (λ (b : Bool). (read_turn ev b l).reply
          ∷ (list_turn ev (passes14 ev (read_turn ev b l).left) (passes15 ev (read_turn ev b l).left slots)
          (read_turn ev b l).left).reply ∷ []) (fails ev)
          ∙ ap (λ (b : Bool). reads (Err Nesting) ∷ (list_turn ev b (passes15 ev l slots) l).reply ∷ []) (fails ev)
