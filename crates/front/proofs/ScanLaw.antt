-- One turn of the scan: the field of a word is at most the field of a word that has its bits, and a clean scan has seen no word that is
-- neither held nor 0. Assumes nothing.
use Prim.Native.Nat.{ℕ, ◌+◌, ◌/◌, ◌%◌, ◌^◌, ◌≤◌, ◌<◌}
use native.Mathlib.Omega.{arith}
use mathlib.Core.Path.{◌≡◌, ap, ◌∙◌}
use mathlib.Core.Bool.{false}
use mathlib.Core.List.{List}
use lib.Bits.{bit_or, bit_and, or_add_and, and_le_l, and_le_r, or_shr, or_mod}
use borrow.Author.Count.{below_more}
use borrow.Author.Tests.{leb-false}
use Rattle.buffers.specs.Filled.{at}
use Rattle.records.specs.Words.{is_held, examined_of}
use Rattle.editing.specs.Held.{held_bit, held_to}
use Rattle.editing.proofs.Held.{held_more}

or_above : (a b : ℕ) → (a ≤ bit_or a b) × (b ≤ bit_or a b)
or_above a b =
    let e = or_add_and a b in
    let l = and_le_l a b in
    let r = and_le_r a b in
    (omega arith, omega arith)

examined_or : (a b : ℕ) → examined_of (bit_or a b) ≡ bit_or (examined_of a) (examined_of b)
unfolding examined_of
examined_or a b = ap (λ (x : ℕ). x % 2 ^ 17) (or_shr a b 16) ∙ or_mod (a / 2 ^ 16) (b / 2 ^ 16) 17

-- What a scan has seen of the first i words.
pub record Seen (words : List ℕ) (any all held i : ℕ) : Type 0 where
  pub bound : (j : ℕ) → j < i → examined_of (at words j) ≤ examined_of any
  pub counted : held ≡ held_to (at words) i
  pub empty : 2 ^ 63 ≤ all → (j : ℕ) → j < i → is_held (at words j) ≡ false → at words j ≡ 0

pub seen_more :
    {words : List ℕ} {any all held i low bit : ℕ}
    → Seen words any all held i
    → (2 ^ 63 ≤ low → at words i < 2 ^ 63 → at words i ≡ 0)
    → bit ≡ held_bit (at words i)
    → Seen words (bit_or any (at words i)) (bit_and all low) (held + bit) (i + 1)
seen_more {words} {any} {all} {held} {i} {low} {bit} S L b =
    let both = or_above (examined_of any) (examined_of (at words i)) in
    let or = examined_or any (at words i) in
    record {
      bound = below_more
          (λ j. examined_of (at words j) ≤ examined_of (bit_or any (at words i)))
          i
          (λ j h. let l = S.bound j h in omega (arith, both.0))
          (omega (arith, both.1));
      counted = (let more = held_more (at words) i in let count = S.counted in omega arith);
      empty = λ l. below_more
          (λ j. is_held (at words j) ≡ false → at words j ≡ 0)
          i
          (S.empty (let a = and_le_l all low in omega arith))
          (λ h. L (let a = and_le_r all low in omega arith) (leb-false (2 ^ 63) (at words i) h));
    }
