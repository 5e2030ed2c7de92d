-- Held words and their count: one word's bit, and the count of words one after the other. Assumes nothing.
use Prim.Native.Nat.{ℕ, zero, suc, ◌+◌, ◌≤◌, ◌<◌}
use native.Mathlib.Omega.{arith}
use native.Mathlib.Nat.{add-zero, add-suc}
use native.Mathlib.Numerals.{add-one}
use mathlib.Core.Path.{◌≡◌, refl, sym, ap, ◌∙◌}
use mathlib.Core.Bool.{Bool, true, false, cond}
use mathlib.Core.List.{List, [], ◌∷◌}
use lib.ListN.{length}
use Rattle.buffers.specs.Filled.{at}
use Rattle.records.specs.Words.{is_held}
use Rattle.editing.specs.Table.{held_in}
use Rattle.editing.specs.Held.{held_bit, only_held, held_to}

-- A choice whose test is known.
pub cond_by : {t b : Bool} (x y : ℕ) → t ≡ b → cond t x y ≡ cond b x y
cond_by x y e = ap (λ (t : Bool). cond t x y) e

pub bit_small : (w : ℕ) → held_bit w < 2
bit_small w = go (is_held w)
  where
    go : (b : Bool) → cond b 1 0 < 2
    go true = omega arith
    go false = omega arith

-- A word that is taken only where it is held has the same bit.
pub bit_only : (w : ℕ) → held_bit (only_held w) ≡ held_bit w
bit_only w = go (is_held w) refl
  where
    go : (b : Bool) → is_held w ≡ b → held_bit (cond b w 0) ≡ cond b 1 0
    go true e = cond_by 1 0 e
    go false e = refl

-- A held word put over another: the bit of the other does not fall.
pub bit-over : (a b : ℕ) → held_bit b ≤ held_bit (cond (is_held a) a b)
bit-over a b = go (is_held a) refl
  where
    go : (t : Bool) → is_held a ≡ t → held_bit b ≤ held_bit (cond t a b)
    go true e = let i : held_bit a ≡ 1 = cond_by 1 0 e in let l = bit_small b in omega arith
    go false e = omega arith

module _ (f : ℕ → ℕ) where
  pub held_more : (n : ℕ) → held_to f (n + 1) ≡ held_to f n + held_bit (f n)
  held_more n = ap (held_to f) (add-one n)

  pub held_most : (n : ℕ) → held_to f n ≤ n
  held_most zero = omega arith
  held_most (suc n) = let h = held_most n in let l = bit_small (f n) in omega arith

  pub held_none : (n : ℕ) → ((j : ℕ) → j < n → f j ≡ 0) → held_to f n ≡ 0
  held_none zero h = refl
  held_none (suc n) h =
      let a = held_none n (λ j l. h j (omega arith)) in
      let b : held_bit (f n) ≡ 0 = ap held_bit (h n (omega arith)) in
      omega arith

  pub held_same : (g : ℕ → ℕ) (n : ℕ) → ((j : ℕ) → j < n → f j ≡ g j) → held_to f n ≡ held_to g n
  held_same g zero h = refl
  held_same g (suc n) h =
      let a = held_same g n (λ j l. h j (omega arith)) in
      let b : held_bit (f n) ≡ held_bit (g n) = ap held_bit (h n (omega arith)) in
      omega arith

  -- Two stretches one after the other.
  pub held_add : (a b : ℕ) → held_to f (a + b) ≡ held_to f a + held_to (λ j. f (a + j)) b
  held_add a zero = ap (held_to f) (add-zero a) ∙ sym (add-zero (held_to f a))
  held_add a (suc b) =
      let h = held_add a b in
      let e = ap (held_to f) (add-suc a b) in
      omega arith

-- The count of a list is the count of its elements.
pub held_list : (xs : List ℕ) → held_in xs ≡ held_to (at xs) (length xs)
held_list [] = refl
held_list (w ∷ ws) =
    let h = held_list ws in
    let e = held_add (at (w ∷ ws)) 1 (length ws) in
    let d = held_same (λ j. at (w ∷ ws) (1 + j)) (at ws) (length ws) (λ j l. ap (λ (x : ℕ). at (w ∷ ws) x) (one_more j)) in
    let s : suc (length ws) ≡ 1 + length ws = omega arith in
    let i = ap (held_to (at (w ∷ ws))) s in
    omega arith
  where
    one_more : (j : ℕ) → 1 + j ≡ suc j
    one_more j = omega arith
