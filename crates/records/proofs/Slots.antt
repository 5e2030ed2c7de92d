-- The laws of a slot: one pair has it, it lies in the table, which pair has it, and where it lies in the rows of the table. Assumes
-- nothing.
use Prim.Native.Nat.{ℕ, ◌+◌, ◌*◌, ◌/◌, ◌%◌, ◌^◌, ◌≤◌, ◌<◌}
use native.Mathlib.Omega.{arith}
use native.Mathlib.Nat.{mul-le-mul, mul-le-mul_left, mul-le-mul_right, mul_comm, div-lt_iff_lt-mul, div-add-mod'}
use mathlib.Core.Path.{◌≡◌, refl, ap}
use mathlib.Core.Bool.{Bool, true, false}
use lib.Arith.{digits_mod, digits_div}
use lib.Dec.{ltb}
use borrow.Author.Tests.{ltb-true, ltb-false}
use Rattle.records.specs.Slots.{slot_of, table_size}

-- A row below others lies before their end.
pub row_room : (R i rows : ℕ) → i < rows → i * R + R ≤ rows * R
row_room R i rows h = let m : (i + 1) * R ≤ rows * R = mul-le-mul_right R (omega arith) in omega arith

-- Rows i to i + m − 1 lie before the end of i + m rows or more.
pub rows_room : (R i m rows : ℕ) → i + m ≤ rows → i * R + m * R ≤ rows * R
rows_room R i m rows h = let l : (i + m) * R ≤ rows * R = mul-le-mul_right R h in omega arith

-- The rows before s, those that are gone or new, and those behind lie in the table.
pub room : (R s a b cap : ℕ) → s + a + b ≤ cap + 1 → s * R + a * R + b * R ≤ table_size R cap
room R s a b cap h = let l : (s + a + b) * R ≤ (cap + 1) * R = mul-le-mul_right R h in omega arith

-- A shorter text has a smaller table.
pub size_up : (R n cap : ℕ) → n ≤ cap → table_size R n ≤ table_size R cap
size_up R n cap h = mul-le-mul_left R (let k : n + 1 ≤ cap + 1 = omega arith in k)

-- A slot is in the row of its position: row by row, the rules in their order.
pub in_row : (R rule q : ℕ) → slot_of R rule q ≡ q * R + rule
unfolding slot_of
in_row R rule q = refl

-- A slot so many rows on.
pub rows_on : (R rule rows q : ℕ) → slot_of R rule (rows + q) ≡ rows * R + slot_of R rule q
unfolding slot_of
rows_on R rule rows q = omega arith

-- A pair's slot is before the end of the rows up to its own, and in the table.
pub before_row : (R rule q rows : ℕ) → rule < R → q < rows → slot_of R rule q < rows * R
before_row R rule q rows l h = let m = row_room R q rows h in let e = in_row R rule q in omega arith

pub slot_in : (R cap rule q : ℕ) → rule < R → q ≤ cap → slot_of R rule q < table_size R cap
slot_in R cap rule q l h = let m = before_row R rule q (cap + 1) l (omega arith) in let c = mul_comm (cap + 1) R in omega arith

-- A slot is far below a machine word.
pub slot_fits : (R rule q : ℕ) → R < 2 ^ 32 → rule < 4096 → q ≤ 65535 → slot_of R rule q < 2 ^ 64
slot_fits R rule q h k l =
    let m : q * R ≤ 65535 * 4294967295 = mul-le-mul l (let z : R ≤ 4294967295 = omega arith in z) in
    let e = in_row R rule q in
    omega arith

-- A later position has a later slot, whatever the rules.
later : (R p q r s : ℕ) → p < q → r < R → slot_of R r p < slot_of R s q
later R p q r s h l = let m = before_row R r p q l h in let e = in_row R s q in omega arith

-- Two pairs have one slot only if they are one pair.
pub one_slot : (R p q r s : ℕ) → r < R → s < R → slot_of R r p ≡ slot_of R s q → (p ≡ q) × (r ≡ s)
one_slot R p q r s l k e = go (ltb p q) refl (ltb q p) refl
  where
    go : (a : Bool) → ltb p q ≡ a → (b : Bool) → ltb q p ≡ b → (p ≡ q) × (r ≡ s)
    go true x b y = absurd (let h = later R p q r s (ltb-true p q x) l in omega arith)
    go false x true y = absurd (let h = later R q p s r (ltb-true q p y) k in omega arith)
    go false x false y =
        let a = ltb-false p q x in
        let b = ltb-false q p y in
        let same : p ≡ q = omega arith in
        let moved = ap (λ (j : ℕ). j * R) same in
        let f = in_row R r p in
        let g = in_row R s q in
        (same, omega arith)

-- The pair of a slot.
module _ (R : ℕ) where
  pub position_of : (rule q : ℕ) → rule < R → slot_of R rule q / R ≡ q
  unfolding slot_of
  position_of rule q h = digits_div q h

  pub rule_of : (rule q : ℕ) → rule < R → slot_of R rule q % R ≡ rule
  unfolding slot_of
  rule_of rule q h = digits_mod q h

  pub slot_is : (j : ℕ) → slot_of R (j % R) (j / R) ≡ j
  unfolding slot_of
  slot_is j = div-add-mod' j R

  pub row_below : (j rows : ℕ) → 1 ≤ R → j < rows * R → j / R < rows
  row_below j rows some h = (div-lt_iff_lt-mul {k = R} {x = j} {y = rows} some).1 h
