-- The rows that a listing's answer counts are slots that it was lent: so many words of them can be printed. Assumes nothing.
use Rattle.grammar.specs.Refusals.{number_in}
use Rattle.std.specs.Prelude.{Ok, Err}
use Prim.Native.Nat.{ℕ, zero, suc, ◌≤◌}
use native.Mathlib.Omega.{arith}
use mathlib.Core.Path.{◌≡◌, refl, ap}
use mathlib.Core.List.{List}
use lib.ListN.{length, take, drop, length-append}
use Rattle.promises.specs.Answers.{ReadAnswer, ListAnswer}
use Rattle.promises.specs.declared.SheetReading.{SheetReading}
use Rattle.promises.specs.Listing.{EndsAs, listed, no_slots, zeroed, ThenListed, SheetListed, ListPromise}
use Rattle.answered.specs.After.{rows_in}

ended :
    {img : List ℕ} {cap : ℕ} {x : SheetReading} {words R : List ℕ} {a : ListAnswer} {W' R' : List ℕ}
    → EndsAs img cap x words R a W' R' → rows_in a ≤ length R'
ended {R = R} (listed rows h) = omega (arith, length-append rows (drop (length rows) R))
ended no_slots = omega arith
ended (zeroed h) = omega arith

-- An answer with a number has no rows.
none : (a : ListAnswer) {k : ℕ} → number_in a ≡ k → 1 ≤ k → rows_in a ≡ 0
none (Ok x) e h = omega (arith, e, h)
none (Err r) e h = refl

module _ (img B : List ℕ) (n : ℕ) (W R : List ℕ) (a : ListAnswer) (W' R' : List ℕ) where
  after_reading :
      (r : ReadAnswer) (words : List ℕ) → ThenListed img (take n B) (length B) W r words R a W' R' → rows_in a ≤ length R'
  after_reading (Ok x) words t = ended t.ends
  after_reading (Err r) words t = omega (arith, ap rows_in t.answer_is)

  by_number :
      (number : ℕ)
      → (1 ≤ number → number_in a ≡ number)
      → (number ≡ 0 → SheetListed img (take n B) (length B) W R a W' R')
      → rows_in a ≤ length R'
  by_number zero r l = after_reading (l refl).reading (l refl).words (l refl).then
  by_number (suc k) r l = omega (arith, none a (r (omega arith)) (omega arith))

pub rows_lent :
    {img B : List ℕ} {n : ℕ} {W R : List ℕ} {a : ListAnswer} {W' R' : List ℕ} → ListPromise img B n W R a W' R' → rows_in a ≤ length R'
rows_lent {img} {B} {n} {W} {R} {a} {W'} {R'} p =
    by_number img B n W R a W' R' p.number (λ h. (p.refused h).0) p.listed
