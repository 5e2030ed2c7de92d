-- Theorem `back_is`: a row taken out, words carried, zeros before and behind them, and the row put over the rest are the back of an edit.
-- Assumes nothing.
use Prim.Native.Nat.{ℕ, zero, suc, ◌+◌, ◌-◌, ◌≤◌, ◌<◌}
use native.Mathlib.Omega.{arith}
use mathlib.Core.Path.{◌≡◌, refl, sym, ap, ◌∙◌}
use mathlib.Core.Bool.{cond}
use mathlib.Core.Logic.{⊎_elim}
use mathlib.Core.List.{List}
use lib.ListN.{length, replicate}
use borrow.Author.Tests.{le-leb, lt-leb, lt-ltb, le-ltb}
use Rattle.buffers.specs.Filled.{Filled, at}
use borrow.Rule.Slice.PartMut.{mid_of, put_mid}
use Rattle.buffers.proofs.Fill.{cut, fit}
use Rattle.buffers.proofs.Parts.{part_zeros}
use Rattle.records.specs.Words.{is_held}
use Rattle.editing.specs.Held.{only_held, kept_word, held_to}
use Rattle.words.specs.Counted.{Counted}
use Rattle.back.specs.Back.{Carried, RowOf, Put, BackFits, came_word, Back}
use Rattle.editing.proofs.Held.{held_add, held_same, held_none, held_most, bit_only}

held_only : (f : ℕ → ℕ) (n : ℕ) → held_to (λ j. only_held (f j)) n ≡ held_to f n
held_only f zero = refl
held_only f (suc n) = let h = held_only f n in let b = bit_only (f n) in omega arith

module _ (gone new tail : ℕ) (old : List ℕ) where
  came_before : (j : ℕ) → j < new → came_word gone new tail old j ≡ 0
  came_before j h = simp (lt-leb new j h)

  came : (j : ℕ) → new ≤ j → j < new + tail → came_word gone new tail old j ≡ only_held (at old (gone + (j - new)))
  came j h l = simp (le-leb new j h, lt-ltb j (new + tail) l)

  came_past : (j : ℕ) → new ≤ j → new + tail ≤ j → came_word gone new tail old j ≡ 0
  came_past j h l = simp (le-leb new j h, le-ltb j (new + tail) l)

  module _
      {carried front clean : List ℕ} {c : ℕ}
      (fits : new + tail ≤ length old)
      (C : Carried old carried gone new tail c)
      (Z : Filled (λ j. 0) carried front 0 new)
      (Y : Filled (λ j. 0) front clean (new + tail) (length old))
    where
      clean_at : (j : ℕ) → j < length old → at clean j ≡ came_word gone new tail old j
      clean_at j h = ⊎_elim
          (λ (p : j < new). Y.before j (omega arith) ∙ Z.inside j (omega arith) p ∙ sym (came_before j p))
          (λ (p : new ≤ j). ⊎_elim
          (λ (q : j < new + tail). Y.before j q ∙ Z.past j p ∙ C.filled.inside j p q ∙ sym (came j p q))
          (λ (q : new + tail ≤ j). Y.inside j q h ∙ sym (came_past j p q))
          (cut j (new + tail)))
          (cut j new)

      clean-counted : held_to (at clean) (length old) ≡ c
      clean-counted =
          let rest : ℕ = length old - (new + tail) in
          let all : new + tail + rest ≡ length old = omega arith in
          let a = held_add (at clean) (new + tail) rest in
          let b = held_add (at clean) new tail in
          let x = held_none (at clean) new (λ j h. clean_at j (omega arith) ∙ came_before j h) in
          let y = held_same
          (λ j. at clean (new + j))
          (λ j. only_held (at old (gone + j)))
          tail
          (λ j h.
          let i : gone + (new + j - new) ≡ gone + j = omega arith in
          clean_at (new + j) (omega arith) ∙ came (new + j) (omega arith) (omega arith) ∙ ap (λ (k : ℕ). only_held (at old k)) i) in
          let o = held_only (λ j. at old (gone + j)) tail in
          let z = held_none
          (λ j. at clean (new + tail + j))
          rest
          (λ j h. clean_at (new + tail + j) (omega arith) ∙ came_past (new + tail + j) (omega arith) (omega arith)) in
          let e = C.counted in
          let l = ap (held_to (at clean)) all in
          omega arith

      pub back_is :
          {row words : List ℕ} {d : ℕ} (rules : ℕ)
          → BackFits rules gone new tail (length old)
          → RowOf old rules row
          → Put row clean words rules d
          → Back rules gone new tail old words (c + d)
      back_is {row} {words} {d} rules B R P =
          let G = P.filled in
          let rest : ℕ = length old - rules in
          let all : rules + rest ≡ length old = omega arith in
          let a = held_add (at words) rules rest in
          let b = held_add (at clean) rules rest in
          let s = held_same (λ j. at words (rules + j)) (λ j. at clean (rules + j)) rest (λ j h. G.past (rules + j) (omega arith)) in
          let o = ap (held_to (at words)) all in
          let p = ap (held_to (at clean)) all in
          let k = clean-counted in
          let m = P.counted in
          record {
            long = G.long ∙ Y.long ∙ Z.long ∙ C.filled.long;
            first = λ j h. G.inside j (omega arith) h ∙ over j (at row j) (at clean j) (R.stay j h) (clean_at j (omega arith));
            rest = λ j h l. G.past j h ∙ clean_at j l;
            counted = omega arith;
          }
        where
          over :
              (j r x : ℕ) → r ≡ kept_word 0 (at old j) → x ≡ came_word gone new tail old j
              → cond (is_held r) r x ≡ cond (is_held (kept_word 0 (at old j))) (kept_word 0 (at old j)) (came_word gone new tail old j)
          over j r x e g =
              ap (λ (y : ℕ). cond (is_held y) y x) e ∙ ap (λ (y : ℕ). cond (is_held (kept_word 0 (at old j))) (kept_word 0 (at old j)) y) g

-- The same of the parts as they are lent.
pub back_done :
    {row words : List ℕ} {c d : ℕ} (rules gone new tail : ℕ) (old carried zeros ends : List ℕ)
    → BackFits rules gone new tail (length old)
    → RowOf old rules row
    → Carried old carried gone new tail c
    → zeros ≡ replicate (length (mid_of 0 new carried)) 0
    → let front : List ℕ = put_mid 0 new carried zeros in
    ends ≡ replicate (length (mid_of (new + tail) (length front - (new + tail)) front)) 0
    → Put row (put_mid (new + tail) (length front - (new + tail)) front ends) words rules d
    → Back rules gone new tail old words (c + d)
back_done {row} {words} {c} {d} rules gone new tail old carried zeros ends B R C z e P =
    let front : List ℕ = put_mid 0 new carried zeros in
    let long = C.filled.long in
    let Z = fit (part_zeros 0 new carried zeros z (omega arith)) refl (let i : 0 + new ≡ new = omega arith in i) (λ j h k. refl) in
    let more = Z.long in
    let Y = fit (part_zeros (new + tail) (length front - (new + tail)) front ends e (omega arith)) refl
    (let i : new + tail + (length front - (new + tail)) ≡ length old = omega arith in i) (λ j h k. refl) in
    back_is gone new tail old B.new_fits C Z Y rules B R P

-- The counts fit, since there are not more words: those carried and put, and all of the back.
pub counts_fit :
    {f held : ℕ → ℕ} {row old new before words : List ℕ} {lo hi count rules c d : ℕ}
    → Counted f old new lo hi held count c
    → Put row before words rules d
    → c + d ≤ count + rules
counts_fit {held = held} {words = words} {count = count} {rules = rules} C P =
    let e = C.counted in
    let h = held_most held count in
    let m = P.counted in
    let l = held_most (at words) rules in
    omega arith

pub count_fits : {rules gone new tail c : ℕ} {old words : List ℕ} → Back rules gone new tail old words c → c ≤ length old
count_fits {old = old} {words = words} B = let e = B.counted in let h = held_most (at words) (length old) in omega arith
