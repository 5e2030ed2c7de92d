-- A decimal field that is read digit by digit: what is known after each digit, and why a number that is too large is none. Assumes nothing.
use Prim.Native.Nat.{ℕ, zero, suc, ◌+◌, ◌*◌, ◌-◌, ◌≤◌, ◌<◌, ◌^◌}
use native.Mathlib.Omega.{arith}
use mathlib.Core.Path.{◌≡◌, ap}
use mathlib.Core.List.{List}
use lib.ListN.{length, get_or}
use Rattle.fields.specs.Fields.{DigitsTo, value_to, IsNumber}

-- The first i bytes are digits, and are this number.
pub record Passed (s : List ℕ) (value i : ℕ) : Type 0 where
  pub some : 0 < length s
  pub within : i ≤ length s
  pub digits : DigitsTo s i
  pub is : value ≡ value_to s i
  pub fits : value < 2 ^ 64

next : (s : List ℕ) (i : ℕ) → value_to s (i + 1) ≡ value_to s i * 10 + (get_or s i 0 - 48)
next s i =
    let e : i + 1 ≡ suc i = omega arith in
    ap (value_to s) e

more : (s : List ℕ) (i k : ℕ) → value_to s i ≤ value_to s (k + i)
more s i zero =
    let e : 0 + i ≡ i = omega arith in
    let q = ap (value_to s) e in
    omega arith
more s i (suc k) =
    let e : suc k + i ≡ (k + i) + 1 = omega arith in
    let q = ap (value_to s) e in
    let h = more s i k in
    let n = next s (k + i) in
    omega arith

-- The number grows with each digit.
grows : (s : List ℕ) (i n : ℕ) → i ≤ n → value_to s i ≤ value_to s n
grows s i n h =
    let e : (n - i) + i ≡ n = omega arith in
    let m = more s i (n - i) in
    let q : value_to s ((n - i) + i) ≡ value_to s n = ap (value_to s) e in
    omega arith

pub too_large : {s : List ℕ} {v i : ℕ} → Passed s v i → i < length s → 2 ^ 64 ≤ v * 10 + (get_or s i 0 - 48) → IsNumber s → ⊥
too_large {s} {v} {i} P h l n =
    let e = P.is in
    let g = grows s (i + 1) (length s) (omega arith) in
    let m = next s i in
    let t = n.2 in
    omega arith
