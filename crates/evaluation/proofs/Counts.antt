-- Counts of pairs: equal tests count the same, the count of one pair is 1, and a test that two tests share out is counted by both.
-- Assumes nothing.
use Prim.Native.Nat.{ℕ, zero, suc, ◌+◌, ◌*◌, ◌≤◌, ◌<◌}
use native.Mathlib.Omega.{arith}
use native.Mathlib.Nat.{mul-suc}
use mathlib.Core.Path.{◌≡◌, refl, ap, ◌∙◌}
use mathlib.Core.Bool.{Bool, true, false, ◌&&◌}
use lib.Dec.{eqb}
use borrow.Author.Tests.{eq-eqb, ne_eqb, eqb-true, eqb-false}
use Rattle.grammar.specs.Questions.{one_if}
use Rattle.grammar.proofs.Bools.{at_most_1}
use Rattle.evaluation.specs.Counts.{sum_to, count_pairs}

sum_same : (n : ℕ) (f g : ℕ → ℕ) → ((i : ℕ) → i < n → f i ≡ g i) → sum_to n f ≡ sum_to n g
unfolding sum_to
sum_same zero f g h = refl
sum_same (suc n) f g h = let a = sum_same n f g (λ i l. h i (omega arith)) in let b = h n (omega arith) in omega arith

sum_plus : (n : ℕ) (f g : ℕ → ℕ) → sum_to n (λ i. f i + g i) ≡ sum_to n f + sum_to n g
unfolding sum_to
sum_plus zero f g = refl
sum_plus (suc n) f g = let a = sum_plus n f g in omega arith

sum_most : (n m : ℕ) (f : ℕ → ℕ) → ((i : ℕ) → f i ≤ m) → sum_to n f ≤ m * n
unfolding sum_to
sum_most zero m f h = omega arith
sum_most (suc n) m f h = let a = sum_most n m f h in rw mul-suc (omega (arith, h n))

-- A sum of which every place is 0, and one with one place that is not.
pub sum_none : (n : ℕ) (f : ℕ → ℕ) → ((i : ℕ) → i < n → f i ≡ 0) → sum_to n f ≡ 0
unfolding sum_to
sum_none zero f h = refl
sum_none (suc n) f h = let a = sum_none n f (λ i l. h i (omega arith)) in let b = h n (omega arith) in omega arith

sum_point : (n a : ℕ) (f : ℕ → ℕ) → a < n → ((i : ℕ) → (a ≡ i → ⊥) → f i ≡ 0) → sum_to n f ≡ f a
unfolding sum_to
sum_point zero a f l h = absurd (omega arith)
sum_point (suc n) a f l h = go (eqb a n) refl (λ k. sum_point n a f k h)
  where
    go : (b : Bool) → eqb a n ≡ b → (a < n → sum_to n f ≡ f a) → sum_to n f + f n ≡ f a
    go true e before =
        let same = eqb-true a n e in
        let rest = sum_none n f (λ i k. h i (λ z. omega arith)) in
        let here = ap f same in
        omega arith
    go false e before =
        let other = eqb-false a n e in
        let rest = before (omega (arith, other)) in
        let last = h n other in
        omega arith

pub count_same :
    (rules positions : ℕ) (f g : ℕ → ℕ → Bool)
    → ((r q : ℕ) → r < rules → q < positions → f r q ≡ g r q)
    → count_pairs rules positions f ≡ count_pairs rules positions g
count_same R P f g h =
    sum_same P (λ q. sum_to R (λ r. one_if (f r q))) (λ q. sum_to R (λ r. one_if (g r q)))
    (λ q k. sum_same R (λ r. one_if (f r q)) (λ r. one_if (g r q)) (λ r l. ap one_if (h r q l k)))

pub count_plus :
    (rules positions : ℕ) (f g h : ℕ → ℕ → Bool)
    → ((r q : ℕ) → r < rules → q < positions → one_if (f r q) ≡ one_if (g r q) + one_if (h r q))
    → count_pairs rules positions f ≡ count_pairs rules positions g + count_pairs rules positions h
count_plus R P f g h e =
    sum_same P (λ q. sum_to R (λ r. one_if (f r q))) (λ q. sum_to R (λ r. one_if (g r q)) + sum_to R (λ r. one_if (h r q)))
    (λ q k.
    sum_same R (λ r. one_if (f r q)) (λ r. one_if (g r q) + one_if (h r q)) (λ r l. e r q l k)
    ∙ sum_plus R (λ r. one_if (g r q)) (λ r. one_if (h r q)))
    ∙ sum_plus P (λ q. sum_to R (λ r. one_if (g r q))) (λ q. sum_to R (λ r. one_if (h r q)))

-- One pair.
pub count_one :
    (rules positions r q : ℕ) → r < rules → q < positions
    → count_pairs rules positions (λ s p. eqb r s && eqb q p) ≡ 1
count_one R P r q l k =
    sum_point P q (λ p. sum_to R (λ s. one_if (eqb r s && eqb q p))) k
    (λ p n. sum_none R (λ s. one_if (eqb r s && eqb q p)) (λ s m. off (eqb r s) (eqb q p) (ne_eqb q p n)))
    ∙ sum_point R r (λ s. one_if (eqb r s && eqb q q)) l (λ s n. ap (λ (b : Bool). one_if (b && eqb q q)) (ne_eqb r s n))
    ∙ on (eqb r r) (eqb q q) (eq-eqb r r refl) (eq-eqb q q refl)
  where
    off : (a b : Bool) → b ≡ false → one_if (a && b) ≡ 0
    off true b e = ap one_if e
    off false b e = refl

    on : (a b : Bool) → a ≡ true → b ≡ true → one_if (a && b) ≡ 1
    on a b e f = ap (λ (c : Bool). one_if (c && b)) e ∙ ap one_if f

pub count_most : (rules positions : ℕ) (f : ℕ → ℕ → Bool) → count_pairs rules positions f ≤ rules * positions
count_most R P f =
    sum_most P R (λ q. sum_to R (λ r. one_if (f r q)))
    (λ q. let a = sum_most R 1 (λ r. one_if (f r q)) (λ r. at_most_1 (f r q)) in omega arith)
