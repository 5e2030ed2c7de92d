-- Rounds of visits stop, where a visit either changes nothing or makes the list heavier, and no list is heavier than `most`.
--     round_still      a round that adds nothing has visits that each add nothing
--     still_at_most    after `most` rounds no round adds anything
--     same_left        rounds leave the same wherever they are left after a round that adds nothing
--     stop             "the first that adds nothing" comes
-- Assumes nothing.
use Prim.Native.Nat.{ℕ, zero, suc, ◌+◌, ◌-◌, ◌≤◌, ◌<◌}
use native.Mathlib.Omega.{arith}
use native.Mathlib.Nat.{lt_trans, zero-add, suc-add}
use mathlib.Core.Path.{◌≡◌, refl, sym, ap, ◌∙◌, subst}
use mathlib.Core.Bool.{Bool, true, false}
use mathlib.Core.List.{List, [], ◌∷◌}
use mathlib.Core.Logic.{◌⊎◌, inl, inr}
use lib.ListN.{length, get_or}
use lib.Dec.{eqb, leb}
use borrow.Author.Tests.{eqb-true, eqb-false, leb-true, leb-false}
use Rattle.rounds.specs.Rounds.{round, rounds, StopAfter}

-- The order names only numbers below count.
abbrev pub OnlyBelow : (count : ℕ) → List ℕ → Type 0
OnlyBelow count order = (i : ℕ) → i < length order → get_or order i 0 < count

below_rest : (count n : ℕ) (order : List ℕ) → OnlyBelow count (n ∷ order) → OnlyBelow count order
below_rest count n order b i l = b (suc i) (omega arith)

module _ {A : Type 0} (visit : List A → ℕ → List A) (weight : List A → ℕ) (Good : List A → Type 0) (count most : ℕ) where
  -- Visits of numbers below count keep a list good, and change nothing or make it heavier.
  pub record Growing : Type 0 where
    pub keeps : (xs : List A) (n : ℕ) → n < count → Good xs → Good (visit xs n)
    pub grows : (xs : List A) (n : ℕ) → n < count → Good xs → (visit xs n ≡ xs) ⊎ (weight xs < weight (visit xs n))
    pub bounded : (xs : List A) → Good xs → weight xs ≤ most

module _
    {A : Type 0}
    {visit : List A → ℕ → List A}
    {weight : List A → ℕ}
    {Good : List A → Type 0}
    {count most : ℕ}
    (law : Growing visit weight Good count most)
  where
    abbrev pub Adds : (before after : List A) → Type 0
    Adds before after = (after ≡ before) ⊎ (weight before < weight after)

    then-adds : {a b c : List A} → Adds a b → Adds b c → Adds a c
    then-adds (inl e) (inl f) = inl (f ∙ e)
    then-adds {c = c} (inl e) (inr h) = inr (subst (λ (x : List A). weight x < weight c) e h)
    then-adds {a = a} (inr h) (inl f) = inr (subst (λ (x : List A). weight a < weight x) (sym f) h)
    then-adds (inr h) (inr k) = inr (lt_trans h k)

    pub round_good : (order : List ℕ) (xs : List A) → OnlyBelow count order → Good xs → Good (round visit order xs)
    unfolding round
    round_good [] xs b g = g
    round_good (n ∷ order) xs b g = round_good order (visit xs n) (below_rest count n order b) (law.keeps xs n (b 0 (omega arith)) g)

    pub round_grows : (order : List ℕ) (xs : List A) → OnlyBelow count order → Good xs → Adds xs (round visit order xs)
    unfolding round
    round_grows [] xs b g = inl refl
    round_grows (n ∷ order) xs b g =
        then-adds (law.grows xs n (b 0 (omega arith)) g)
        (round_grows order (visit xs n) (below_rest count n order b) (law.keeps xs n (b 0 (omega arith)) g))

    pub round_still :
        (order : List ℕ) (xs : List A)
        → OnlyBelow count order
        → Good xs
        → round visit order xs ≡ xs
        → (i : ℕ) → i < length order → visit xs (get_or order i 0) ≡ xs
    unfolding round
    round_still [] xs b g e i l = absurd (omega arith)
    round_still (n ∷ order) xs b g e i l = go (law.grows xs n (b 0 (omega arith)) g) (λ f. round_still order xs rest g f)
      where
        rest : OnlyBelow count order
        rest = below_rest count n order b

        later : Adds (visit xs n) (round visit order (visit xs n))
        later = round_grows order (visit xs n) rest (law.keeps xs n (b 0 (omega arith)) g)

        at :
            (k : ℕ) → k < suc (length order) → visit xs n ≡ xs → ((j : ℕ) → j < length order → visit xs (get_or order j 0) ≡ xs)
            → visit xs (get_or (n ∷ order) k 0) ≡ xs
        at zero m first others = first
        at (suc k) m first others = others k (omega arith)

        no-later : weight xs < weight (visit xs n) → Adds (visit xs n) (round visit order (visit xs n)) → ⊥
        no-later h (inl f) = let same : weight (visit xs n) ≡ weight xs = ap weight (sym f ∙ e) in omega arith
        no-later h (inr k) = let same : weight (round visit order (visit xs n)) ≡ weight xs = ap weight e in omega arith

        go :
            Adds xs (visit xs n)
            → (round visit order xs ≡ xs → (j : ℕ) → j < length order → visit xs (get_or order j 0) ≡ xs)
            → visit xs (get_or (n ∷ order) i 0) ≡ xs
        go (inl f) ih = at i l f (ih (sym (ap (round visit order) f) ∙ e))
        go (inr h) ih = absurd (no-later h later)

    module _ (order : List ℕ) (start : List A) (below : OnlyBelow count order) (good : Good start) where
      pub rounds_good : (k : ℕ) → Good (rounds visit k order start)
      unfolding rounds
      rounds_good zero = good
      rounds_good (suc k) = round_good order (rounds visit k order start) below (rounds_good k)

      -- The round after the first k adds nothing.
      abbrev pub Still : ℕ → Type 0
      Still k = round visit order (rounds visit k order start) ≡ rounds visit k order start

      next_grows : (k : ℕ) → Adds (rounds visit k order start) (round visit order (rounds visit k order start))
      next_grows k = round_grows order (rounds visit k order start) below (rounds_good k)

      still-next : (k : ℕ) → Still k → Still (suc k)
      unfolding rounds
      still-next k s = ap (round visit order) s

      still-or-heavy : (k : ℕ) → Still k ⊎ (k ≤ weight (rounds visit k order start))
      unfolding rounds
      still-or-heavy zero = inr (omega arith)
      still-or-heavy (suc k) = go (still-or-heavy k) (next_grows k)
        where
          go :
              Still k ⊎ (k ≤ weight (rounds visit k order start))
              → Adds (rounds visit k order start) (round visit order (rounds visit k order start))
              → Still (suc k) ⊎ (suc k ≤ weight (round visit order (rounds visit k order start)))
          go (inl s) a = inl (still-next k s)
          go (inr h) (inl s) = inl (still-next k s)
          go (inr h) (inr m) = inr (omega arith)

      pub still_at_most : Still most
      still_at_most = go (still-or-heavy most) (next_grows most)
        where
          go :
              Still most ⊎ (most ≤ weight (rounds visit most order start))
              → Adds (rounds visit most order start) (round visit order (rounds visit most order start))
              → Still most
          go (inl s) a = s
          go (inr h) (inl s) = s
          go (inr h) (inr m) =
              absurd
              (omega (
                arith,
                law.bounded (round visit order (rounds visit most order start))
                    (round_good order (rounds visit most order start) below (rounds_good most)),
              ))

      still_after : (k j : ℕ) → Still k → rounds visit (j + k) order start ≡ rounds visit k order start
      unfolding rounds
      still_after k zero s = rw (zero-add k) refl
      still_after k (suc j) s = rw (suc-add j k) (ap (round visit order) (still_after k j s) ∙ s)

      pub same_left : (j k : ℕ) → Still j → Still k → rounds visit j order start ≡ rounds visit k order start
      same_left j k s t = go (leb j k) refl
        where
          later : (j k : ℕ) → Still j → j ≤ k → rounds visit k order start ≡ rounds visit j order start
          later j k s l =
              let sum : k ≡ (k - j) + j = omega arith in
              ap (λ (i : ℕ). rounds visit i order start) sum ∙ still_after j (k - j) s

          go : (b : Bool) → leb j k ≡ b → rounds visit j order start ≡ rounds visit k order start
          go true e = sym (later j k s (leb-true j k e))
          go false e = let l = leb-false j k e in later k j t (omega arith)

      -- The rounds stop, and what they leave is what `most` rounds leave.
      pub stop : (k : ℕ) × StopAfter visit k order start
      stop = search-up most 0 (omega arith) (λ j l. absurd (omega arith))
        where
          different : (j : ℕ) → weight (rounds visit j order start) < weight (round visit order (rounds visit j order start)) → Still j → ⊥
          different j h s = let same = ap weight s in omega arith

          search-up :
              (left j : ℕ)
              → left + j ≡ most
              → ((i : ℕ) → i < j → Still i → ⊥)
              → (k : ℕ) × StopAfter visit k order start
          search-up zero j e none =
              (j, record { adds_nothing = subst Still (let same : most ≡ j = omega arith in same) still_at_most; first = none })
          search-up (suc left) j e none = go (next_grows j) (λ h. search-up left (suc j) (omega arith) (further h))
            where
              further :
                  weight (rounds visit j order start) < weight (round visit order (rounds visit j order start))
                  → (i : ℕ) → i < suc j → Still i → ⊥
              further h i l = at (eqb i j) refl
                where
                  at : (b : Bool) → eqb i j ≡ b → Still i → ⊥
                  at true d s = different j h (subst Still (eqb-true i j d) s)
                  at false d s = let other = eqb-false i j d in none i (omega (arith, other)) s

              go :
                  Adds (rounds visit j order start) (round visit order (rounds visit j order start))
                  → (weight (rounds visit j order start) < weight (round visit order (rounds visit j order start))
                  → (k : ℕ) × StopAfter visit k order start)
                  → (k : ℕ) × StopAfter visit k order start
              go (inl s) rest = (j, record { adds_nothing = s; first = none })
              go (inr h) rest = rest h
