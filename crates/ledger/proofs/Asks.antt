-- Along a list of calls questions 1 to 8 hold, and questions 9 to 11 are those that the ledger asks of its own text. Assumes nothing.
use Prim.Native.Nat.{ℕ, ◌≤◌}
use mathlib.Core.Path.{◌≡◌, sym, ◌∙◌}
use mathlib.Core.Bool.{true, false, true≢false}
use mathlib.Core.List.{List}
use lib.ListN.{length}
use lib.Dec.{leb, ltb}
use borrow.Author.Tests.{leb-true, le-leb, ltb-true, lt-ltb}
use Rattle.grammar.specs.Image.{rules}
use Rattle.grammar.specs.Questions.{First}
use Rattle.editing.specs.Text.{new_length}
use Rattle.promises.specs.Questions.{Question9, Question10, Question11, of_sheet}
use Rattle.ledger.specs.Ledger.{Evaluations, Ledger, passes9, passes10, passes11}
use Rattle.grammar.proofs.Bools.{both, joined}
use Rattle.promises.proofs.Asked.{sheet_first}
use Rattle.ledger.proofs.Inv.{Inv, cap_is, lent}

module _ {ev : Evaluations} {cap : ℕ} {rest : List ℕ} {l : Ledger} {B : List ℕ} {n : ℕ} {W : List ℕ} (v : Inv ev cap rest l B n W) where
  pub good : First (of_sheet l.image (length B) n (length W)) 0
  good = sheet_first l.image (length B) n (length W) l.accepted (lent v)

  module _ (s e : ℕ) where
    pub passes_9 : passes9 l s e ≡ true → Question9 n s e
    passes_9 t =
        let b = both (leb s e) (leb e (length l.text)) t in
        record { ordered = leb-true s e b.0; in_text = rw v.length_is (leb-true e (length l.text) b.1) }

    pub fails_9 : passes9 l s e ≡ false → Question9 n s e → ⊥
    fails_9 t x =
        true≢false
        (sym
        (joined (le-leb s e x.ordered)
        (le-leb e (length l.text) (rw (sym v.length_is) x.in_text)))
        ∙ t)

    pub passes_10 : (r : List ℕ) → passes10 cap l s e r ≡ true → Question10 (length B) n s e (length r)
    passes_10 r t =
        record { room = rw (cap_is v, v.length_is) (leb-true (new_length (length l.text) s e (length r)) cap t) }

    pub fails_10 : (r : List ℕ) → passes10 cap l s e r ≡ false → Question10 (length B) n s e (length r) → ⊥
    fails_10 r t x =
        let h : new_length (length l.text) s e (length r) ≤ cap = rw (cap_is v, v.length_is) at x.room in
        true≢false (sym (le-leb (new_length (length l.text) s e (length r)) cap h) ∙ t)

  module _ (rule q : ℕ) where
    pub passes_11 : passes11 l rule q ≡ true → Question11 l.image n rule q
    passes_11 t =
        let b = both (ltb rule (rules l.image)) (leb q (length l.text)) t in
        record {
          rule_in = ltb-true rule (rules l.image) b.0;
          position_in = rw v.length_is (leb-true q (length l.text) b.1);
        }

    pub fails_11 : passes11 l rule q ≡ false → Question11 l.image n rule q → ⊥
    fails_11 t x =
        true≢false
        (sym
        (joined (lt-ltb rule (rules l.image) x.rule_in)
        (le-leb q (length l.text) (rw (sym v.length_is) x.position_in)))
        ∙ t)
