-- A round that is being made, as the loops of the check make it: what holds after its first i visits.
-- Assumes nothing.
use Prim.Native.Nat.{ℕ, suc, ◌+◌, ◌≤◌, ◌<◌}
use native.Mathlib.Nat.{lt_trans}
use native.Mathlib.Omega.{arith}
use native.Mathlib.Numerals.{add-one}
use mathlib.Core.Path.{◌≡◌, refl, sym, ap, ◌∙◌, subst}
use mathlib.Core.Bool.{Bool, true, false, true≢false}
use mathlib.Core.List.{List, [], ◌∷◌, ◌++◌}
use lib.ListN.{length, get_or, take}
use lib.Seq.{take-suc, take_all}
use Rattle.rounds.specs.Rounds.{round, rounds, RoundMade}

module _ {A : Type 0} (visit : List A → ℕ → List A) where
  round_append : (xs ys : List ℕ) (start : List A) → round visit (xs ++ ys) start ≡ round visit ys (round visit xs start)
  unfolding round
  round_append [] ys start = refl
  round_append (x ∷ xs) ys start = round_append xs ys (visit start x)

  one_visit : (n : ℕ) (start : List A) → round visit (n ∷ []) start ≡ visit start n
  unfolding round
  one_visit n start = refl

  no_visit : (start : List A) → round visit [] start ≡ start
  unfolding round
  no_visit start = refl

  next_visit :
      (order : List ℕ) (start : List A) (i : ℕ)
      → i < length order
      → round visit (take (i + 1) order) start ≡ visit (round visit (take i order) start) (get_or order i 0)
  next_visit order start i l =
      ap (λ (k : ℕ). round visit (take k order) start) (add-one i)
      ∙ ap (λ (xs : List ℕ). round visit xs start) (take-suc order i 0 l)
      ∙ round_append (take i order) (get_or order i 0 ∷ []) start
      ∙ one_visit (get_or order i 0) (round visit (take i order) start)

  -- The list is what some number of rounds leaves.
  pub record Reached (order : List ℕ) (start now : List A) : Type 0 where
    pub count : ℕ
    pub after : now ≡ rounds visit count order start

  pub reached_none : {order : List ℕ} {start : List A} → Reached order start start
  unfolding rounds
  reached_none = record { count = 0; after = refl }

  pub reached_more :
      {order : List ℕ} {start now next : List A} → Reached order start now → next ≡ round visit order now → Reached order start next
  unfolding rounds
  reached_more {order} r e = record { count = suc r.count; after = e ∙ ap (round visit order) r.after }

module _ {A : Type 0} (visit : List A → ℕ → List A) (weight : List A → ℕ) (Good : List A → Type 0) (order : List ℕ) where
  -- The round has changed nothing, or has made the list heavier.
  abbrev pub Progress : (start now : List A) → Bool → Type 0
  Progress start now false = now ≡ start
  Progress start now true = weight start < weight now

  -- What the first i visits of a round have made of the list `start`.
  pub record Turned (start now : List A) (i : ℕ) (changed : Bool) : Type 0 where
    pub good : Good now
    pub so_far : now ≡ round visit (take i order) start
    pub progress : Progress start now changed

module _ {A : Type 0} {visit : List A → ℕ → List A} {weight : List A → ℕ} {Good : List A → Type 0} {order : List ℕ} where
  pub turn_none : {start : List A} → Good start → Turned visit weight Good order start start 0 false
  turn_none {start} g = record { good = g; so_far = sym (no_visit visit start); progress = refl }

  -- a visit that writes
  pub turn_write :
      {start now next : List A} {i : ℕ} {changed : Bool}
      → Turned visit weight Good order start now i changed
      → i < length order
      → next ≡ visit now (get_or order i 0)
      → Good next
      → weight now < weight next
      → Turned visit weight Good order start next (i + 1) true
  turn_write {start} {now} {next} {i} {changed} t l e g h =
      record {
        good = g;
        so_far = e ∙ ap (λ (xs : List A). visit xs (get_or order i 0)) t.so_far ∙ sym (next_visit visit order start i l);
        progress = go changed t.progress;
      }
    where
      go : (c : Bool) → Progress visit weight Good order start now c → weight start < weight next
      go true p = lt_trans p h
      go false p = subst (λ (xs : List A). weight xs < weight next) p h

  -- a visit that finds nothing to add
  pub turn_keep :
      {start now : List A} {i : ℕ} {changed : Bool}
      → Turned visit weight Good order start now i changed
      → i < length order
      → visit now (get_or order i 0) ≡ now
      → Turned visit weight Good order start now (i + 1) changed
  turn_keep {start} {now} {i} {changed} t l e =
      record {
        good = t.good;
        so_far = sym e ∙ ap (λ (xs : List A). visit xs (get_or order i 0)) t.so_far ∙ sym (next_visit visit order start i l);
        progress = t.progress;
      }

  round_heavier :
      {start now : List A} {i : ℕ} {changed : Bool}
      → Turned visit weight Good order start now i changed
      → changed ≡ true
      → weight start < weight now
  round_heavier {start} {now} {i} {changed} t e = go changed e t.progress
    where
      go : (c : Bool) → c ≡ true → Progress visit weight Good order start now c → weight start < weight now
      go true e p = p
      go false e p = absurd (true≢false (sym e))

  round_same :
      {start now : List A} {i : ℕ} {changed : Bool} → Turned visit weight Good order start now i changed → changed ≡ false → now ≡ start
  round_same {start} {now} {i} {changed} t e = go changed e t.progress
    where
      go : (c : Bool) → c ≡ false → Progress visit weight Good order start now c → now ≡ start
      go true e p = absurd (true≢false e)
      go false e p = p

  -- The round as a whole,
  turn_whole :
      {start now : List A} {i : ℕ} {changed : Bool}
      → Turned visit weight Good order start now i changed
      → length order ≤ i
      → now ≡ round visit order start
  turn_whole {start} {now} {i} t l = t.so_far ∙ ap (λ (xs : List ℕ). round visit xs start) (take_all i order l)

  -- and what the function that makes it answers.
  pub turn_made :
      {start now : List A} {i : ℕ} {changed : Bool}
      → Turned visit weight Good order start now i changed
      → length order ≤ i
      → RoundMade (round visit order start) start now changed
  turn_made {start} {now} {i} {changed} t l =
      record {
        is_round = turn_whole t l;
        nothing = round_same t;
        something = λ e same. let h = round_heavier t e in let w = ap weight same in omega arith;
      }

-- A round that added nothing: another adds nothing either.
pub nothing_more :
    {A : Type 0} (visit : List A → ℕ → List A) (order : List ℕ) {before after : List A} {added : Bool}
    → RoundMade (round visit order before) before after added
    → added ≡ false
    → round visit order after ≡ after
nothing_more visit order m e = ap (round visit order) (m.nothing e) ∙ sym m.is_round
