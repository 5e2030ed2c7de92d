-- A look-up of demand 3: from the invariant and the look-up's promise, the reply is the ledger's. Assumes nothing.
use Rattle.grammar.specs.declared.refusal.Refusal.TheVariants.{Pair}
use Rattle.grammar.proofs.Refusals.{number_bounds, refused_with}
use Rattle.grammar.specs.Refusals.{number_in}
use Rattle.std.specs.Prelude.{Ok, Err}
use Prim.Native.Nat.{ℕ}
use native.Mathlib.Omega.{arith}
use mathlib.Core.Path.{◌≡◌, refl, ap, ◌∙◌}
use mathlib.Core.Bool.{Bool, true, false}
use mathlib.Core.List.{List}
use lib.ListN.{length}
use Rattle.packrat.specs.Over.{word_at}
use Rattle.promises.specs.Answers.{LookUpAnswer}
use Rattle.promises.specs.Promises.{LookUpPromise, LookUpValues}
use Rattle.ledger.specs.Ledger.{Evaluations, Ledger, look_up, finds, passes11, look_up_turn, turn}
use Rattle.promises.proofs.Asked.{look_up_11, look_up_0, look_up_one}
use Rattle.ledger.proofs.Asks.{good, passes_11, fails_11}
use Rattle.ledger.proofs.Inv.{Inv}

-- An answer by its number.
found :
    (img W : List ℕ) (rule q : ℕ) (a : LookUpAnswer) → number_in a ≡ 0 → LookUpValues img W rule q a
    → a ≡ Ok (word_at img W rule q)
found img W rule q (Ok w) e h = ap Ok h
found img W rule q (Err r) e h = absurd (let b = number_bounds r in omega arith)

module _ {ev : Evaluations} {cap : ℕ} {rest : List ℕ} {l : Ledger} {B : List ℕ} {n : ℕ} {W : List ℕ} (v : Inv ev cap rest l B n W)
    (rule q : ℕ) {a : LookUpAnswer} (p : LookUpPromise l.image B n W rule q a)
  where
    step : (b : Bool) → passes11 l rule q ≡ b → finds a ≡ (look_up_turn ev b l rule q).reply
    step true t =
        let x = passes_11 v rule q t in
        let none =
        look_up_one l.image (length B) n (length W) rule q (number_in a) 0 p.first
        (look_up_0 l.image (length B) n (length W) (good v) rule q x) in
        ap finds
        (found l.image W rule q a none p.values
        ∙ ap Ok (v.words_are rule q x.rule_in (omega (arith, x.position_in, v.length_is, v.text_fits))))
    step false t =
        let number =
        look_up_one l.image (length B) n (length W) rule q (number_in a) 11 p.first
        (look_up_11 l.image (length B) n (length W) (good v) rule q (fails_11 v rule q t)) in
        ap finds (refused_with a Pair number)

    left-same : (b : Bool) → (look_up_turn ev b l rule q).left ≡ l
    left-same true = refl
    left-same false = refl

    pub look_up_step :
        (finds a ≡ (turn ev cap l (look_up rule q)).reply) × Inv ev cap rest (turn ev cap l (look_up rule q)).left B n W
    unfolding turn
    look_up_step = (step (passes11 l rule q) refl, rw (left-same (passes11 l rule q)) v)
