-- Counting occurrences up to 2: one number more, one list after another, and what a count of 1 says. Assumes nothing.
use Prim.Native.Nat.{ℕ, ◌+◌, ◌<◌, min}
use native.Mathlib.Omega.{arith}
use native.Mathlib.Numerals.{add-one}
use mathlib.Core.Path.{◌≡◌, refl, sym, ap, ◌∙◌}
use mathlib.Core.Bool.{Bool, true, false}
use mathlib.Core.List.{List, [], ◌∷◌, ◌++◌}
use lib.ListN.{length, get_or, set, replicate, length-set}
use lib.Seq.{get_or-set_same, get_or-set_other}
use lib.Dec.{eqb}
use borrow.Author.Tests.{eqb-true, eqb-false, ne_eqb, eq-eqb}
use Rattle.grammar.specs.Image.{rules, nodes, root, node, children}
use Rattle.grammar.specs.Questions.{roots, children_below, one_if, occurrences}
use Rattle.lawful.specs.Tally.{Tallied}
use Rattle.grammar.proofs.Writes.{all_the_same}

pub occurrences-append : (n : ℕ) (xs ys : List ℕ) → occurrences n (xs ++ ys) ≡ occurrences n xs + occurrences n ys
unfolding occurrences
occurrences-append n [] ys = omega arith
occurrences-append n (x ∷ xs) ys = let ih = occurrences-append n xs ys in omega arith

pub tallied_none : (L : List ℕ) → Tallied L L []
unfolding occurrences
tallied_none L = record { as_long = refl; counts = λ n. ap (min 2) (omega arith) }

-- One list after another.
pub tallied_more : {L M N xs ys : List ℕ} → Tallied L M xs → Tallied M N ys → Tallied L N (ys ++ xs)
tallied_more {L} {M} {N} {xs} {ys} s t =
    record {
      as_long = t.as_long ∙ s.as_long;
      counts = λ n. sum (get_or L n 0) (get_or M n 0) (get_or N n 0) (occurrences n xs) (occurrences n ys) (occurrences n (ys ++ xs)) (occurrences-append n ys xs) (s.counts n) (t.counts n);
    }
  where
    sum : (l m n x y z : ℕ) → z ≡ y + x → min 2 m ≡ min 2 (l + x) → min 2 n ≡ min 2 (m + y) → min 2 n ≡ min 2 (l + z)
    sum l m n x y z e p q = omega arith

-- What one number adds to each count.
one_of : (n m : ℕ) → (m ≡ n → ⊥) → occurrences m (n ∷ []) ≡ 0
unfolding occurrences
one_of n m ne = let e : one_if (eqb n m) ≡ 0 = ap one_if (ne_eqb n m (λ e. ne (sym e))) in omega arith

one_is : (n : ℕ) → occurrences n (n ∷ []) ≡ 1
unfolding occurrences
one_is n = let e : one_if (eqb n n) ≡ 1 = ap one_if (eq-eqb n n refl) in omega arith

-- A count goes up by one, as far as 2 goes.
pub tallied_one : (L : List ℕ) (n v : ℕ) → n < length L → min 2 v ≡ min 2 (get_or L n 0 + 1) → Tallied L (set L n v) (n ∷ [])
tallied_one L n v l up =
    record { as_long = length-set L n v; counts = λ m. go m (eqb m n) refl }
  where
    go : (m : ℕ) (b : Bool) → eqb m n ≡ b → min 2 (get_or (set L n v) m 0) ≡ min 2 (get_or L m 0 + occurrences m (n ∷ []))
    go m true e = rw (eqb-true m n e, get_or-set_same L n v 0 l, one_is n) up
    go m false e =
        rw (get_or-set_other L n m v 0 (eqb-false m n e), one_of n m (eqb-false m n e)) (ap (min 2) (omega arith))

-- The lists of question 5, one step further.
pub roots_step : (img : List ℕ) (r : ℕ) → roots img (r + 1) ≡ root img r ∷ roots img r
unfolding roots
roots_step img r = rw (add-one r)

pub children_step : (img : List ℕ) (n : ℕ) → children_below img (n + 1) ≡ children (node img n) ++ children_below img n
unfolding children_below
children_step img n = rw (add-one n)

-- From counts of 0, a count is 1 exactly when its number occurs once.
module _ (img L M : List ℕ) (m n : ℕ)
    (s : Tallied (replicate m 0) L (roots img (rules img)))
    (t : Tallied L M (children_below img (nodes img)))
  where
    counted : min 2 (get_or M n 0) ≡ min 2 (occurrences n (roots img (rules img) ++ children_below img (nodes img)))
    counted =
        sum (get_or (replicate m 0) n 0) (get_or L n 0) (get_or M n 0)
        (occurrences n (roots img (rules img))) (occurrences n (children_below img (nodes img)))
        (occurrences n (roots img (rules img) ++ children_below img (nodes img)))
        (all_the_same {A = ℕ} m n 0) (occurrences-append n (roots img (rules img)) (children_below img (nodes img)))
        (s.counts n) (t.counts n)
      where
        sum : (z l m x y w : ℕ) → z ≡ 0 → w ≡ x + y → min 2 l ≡ min 2 (z + x) → min 2 m ≡ min 2 (l + y) → min 2 m ≡ min 2 w
        sum z l m x y w e d p q = omega arith

    pub once_of_count : get_or M n 0 ≡ 1 → occurrences n (roots img (rules img) ++ children_below img (nodes img)) ≡ 1
    once_of_count e = omega (arith, counted)

    pub count_of_once : occurrences n (roots img (rules img) ++ children_below img (nodes img)) ≡ 1 → get_or M n 0 ≡ 1
    count_of_once e = omega (arith, counted)
