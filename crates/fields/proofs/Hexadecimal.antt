-- A hexadecimal field that is read pair by pair: what is known after each pair, and how the loop makes a turn. Assumes nothing.
use Prim.Native.Nat.{ℕ, zero, suc, ◌+◌, ◌*◌, ◌/◌, ◌≤◌, ◌<◌}
use native.Mathlib.Omega.{arith}
use mathlib.Core.Path.{◌≡◌, ap, subst, ◌∙◌}
use mathlib.Core.Logic.{⊎_elim}
use mathlib.Core.List.{List, []}
use lib.ListN.{length, get_or, set, drop}
use lib.Seq.{get_or-take, get_or-drop}
use Rattle.std.specs.Simd.{first_chunks}
use Rattle.buffers.specs.Filled.{Filled}
use Rattle.buffers.proofs.Fill.{cut, up}
use Rattle.fields.specs.Fields.{hex_value, byte_at}
use Rattle.std.specs.Prelude.{Option, Some, None, SomeIff}
use Rattle.std.proofs.Common.{rules}

-- Before the pair i all are digits, and their bytes stand at the start of `new`.
pub record Paired (s old new : List ℕ) (count i : ℕ) : Type 0 where
  pub within : i ≤ count
  pub pairs : 2 * count ≡ length s
  pub room : count ≤ length old
  pub digits : (j : ℕ) → j < 2 * i → hex_value (get_or s j 0) < 16
  pub filled : Filled (byte_at s) old new 0 i

module _ {s old : List ℕ} where
  pub next :
      {new : List ℕ} {count i v : ℕ} → Paired s old new count i → i < count → hex_value (get_or s (2 * i) 0) < 16 →
      hex_value (get_or s (2 * i + 1) 0) < 16 → v ≡ byte_at s i → Paired s old (set new i v) count (i + 1)
  next {new} {count} {i} {v} P h a b e =
      let r = P.room in
      record {
        within = omega arith;
        pairs = P.pairs;
        room = P.room;
        digits = λ j k. ⊎_elim
            (λ (p : j < 2 * i). P.digits j p)
            (λ (p : 2 * i ≤ j). ⊎_elim
            (λ (q : j < 2 * i + 1).
            let d : 2 * i ≡ j = omega arith in
            subst (λ (x : ℕ). hex_value (get_or s x 0) < 16) d a)
            (λ (q : 2 * i + 1 ≤ j).
            let d : 2 * i + 1 ≡ j = omega arith in
            subst (λ (x : ℕ). hex_value (get_or s x 0) < 16) d b)
            (cut j (2 * i + 1)))
            (cut j (2 * i));
        filled = up P.filled (omega arith) (omega arith) e;
      }

-- What is said of a byte that there is.
pub of_pair : (r : Option ℕ) {P : Type 0} {v x : ℕ} → SomeIff r P v → r ≡ Some x → P × (x ≡ v)
of_pair (Some y) s e = search (rules, s)
of_pair None s e = search rules

-- A byte of a pair is a byte of the field.
in_pair : (k i j : ℕ) (xs : List ℕ) → i < k → j < 2 → get_or (get_or (first_chunks 2 k xs) i []) j 0 ≡ get_or xs (2 * i + j) 0
in_pair zero i j xs h l = absurd (omega arith)
in_pair (suc k) zero j xs h l = get_or-take 2 xs j 0 l ∙ ap (λ (x : ℕ). get_or xs x 0) (let e : j ≡ 2 * 0 + j = omega arith in e)
in_pair (suc k) (suc i) j xs h l =
    let e : 2 + (2 * i + j) ≡ 2 * suc i + j = omega arith in
    in_pair k i j (drop 2 xs) (omega arith) l ∙ get_or-drop 2 xs (2 * i + j) 0 ∙ ap (λ (x : ℕ). get_or xs x 0) e

-- What is said of the digits of a pair is said of digits of the field.
pub of_digits :
    (s : List ℕ) (r : Option ℕ) {pairs : List (List ℕ)} {i : ℕ}
    → pairs ≡ first_chunks 2 (length s / 2) s
    → i < length s / 2
    → SomeIff r ((hex_value (get_or (get_or pairs i []) 0 0) < 16) × (hex_value (get_or (get_or pairs i []) 1 0) < 16))
    (hex_value (get_or (get_or pairs i []) 0 0) * 16 + hex_value (get_or (get_or pairs i []) 1 0))
    → SomeIff r ((hex_value (get_or s (2 * i) 0) < 16) × (hex_value (get_or s (2 * i + 1) 0) < 16)) (byte_at s i)
of_digits s r {pairs} {i} e h d =
    let first : 2 * i + 0 ≡ 2 * i = omega arith in
    let high = in_pair (length s / 2) i 0 s h (omega arith) ∙ ap (λ (x : ℕ). get_or s x 0) first in
    let low = in_pair (length s / 2) i 1 s h (omega arith) in
    rw (e, high, low) at d
