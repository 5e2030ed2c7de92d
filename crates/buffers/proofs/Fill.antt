-- The laws of a filled stretch: how a loop begins, makes one turn up or down, and is said again with other bounds. Assumes nothing.
use Prim.Native.Nat.{ℕ, ◌+◌, ◌≤◌, ◌<◌}
use native.Mathlib.Omega.{arith}
use mathlib.Core.Path.{◌≡◌, refl, sym, ap, ◌∙◌}
use mathlib.Core.Bool.{Bool, true, false}
use mathlib.Core.Logic.{◌⊎◌, inl, inr, ⊎_elim}
use mathlib.Core.List.{List}
use lib.ListN.{length, set, length-set}
use lib.Seq.{get_or-set_same, get_or-set_other}
use lib.Dec.{ltb}
use borrow.Author.Tests.{ltb-true, ltb-false}
use Rattle.buffers.specs.Filled.{Filled, at}

-- Every case split on two numbers.
pub cut : (a b : ℕ) → (a < b) ⊎ (b ≤ a)
cut a b = go (ltb a b) refl
  where
    go : (t : Bool) → ltb a b ≡ t → (a < b) ⊎ (b ≤ a)
    go true e = inl (ltb-true a b e)
    go false e = inr (ltb-false a b e)

module _ {f : ℕ → ℕ} {old : List ℕ} where
  pub none : (i : ℕ) → Filled f old old i i
  none i =
      record {
        long = refl;
        before = λ j h. refl;
        inside = λ j h k. absurd (omega arith);
        past = λ j h. refl;
      }

  -- One more at the upper end.
  pub up :
      {new : List ℕ} {lo hi v : ℕ} → Filled f old new lo hi → lo ≤ hi → hi < length old → v ≡ f hi → Filled f old (set new hi v) lo (hi + 1)
  up {new} {lo} {hi} {v} F h l e =
      let m = F.long in
      let hit : hi < length new = omega arith in
      record {
        long = length-set new hi v ∙ F.long;
        before = λ j k. get_or-set_other new hi j v 0 (λ q. omega arith) ∙ F.before j k;
        inside = λ j a b. ⊎_elim
            (λ (p : j < hi). get_or-set_other new hi j v 0 (λ q. omega arith) ∙ F.inside j a p)
            (λ (p : hi ≤ j).
            let q : j ≡ hi = omega arith in
            ap (λ (x : ℕ). at (set new hi v) x) q ∙ get_or-set_same new hi v 0 hit ∙ e ∙ ap f (sym q))
            (cut j hi);
        past = λ j k. get_or-set_other new hi j v 0 (λ q. omega arith) ∙ F.past j (omega arith);
      }

  -- One more at the lower end.
  pub down :
      {new : List ℕ} {hi v : ℕ} (lo : ℕ) → Filled f old new (lo + 1) hi → lo < hi → lo < length old → v ≡ f lo → Filled f old (set new lo v) lo hi
  down {new} {hi} {v} lo F h l e =
      let m = F.long in
      let hit : lo < length new = omega arith in
      record {
        long = length-set new lo v ∙ F.long;
        before = λ j k. get_or-set_other new lo j v 0 (λ q. omega arith) ∙ F.before j (omega arith);
        inside = λ j a b. ⊎_elim
            (λ (p : lo < j). get_or-set_other new lo j v 0 (λ q. omega arith) ∙ F.inside j (omega arith) b)
            (λ (p : j ≤ lo).
            let q : j ≡ lo = omega arith in
            ap (λ (x : ℕ). at (set new lo v) x) q ∙ get_or-set_same new lo v 0 hit ∙ e ∙ ap f (sym q))
            (cut lo j);
        past = λ j k. get_or-set_other new lo j v 0 (λ q. omega arith) ∙ F.past j k;
      }

  -- A stretch of which nothing is stored, since it is already as it shall be.
  pub kept :
      {new : List ℕ} {lo hi : ℕ} (hi' : ℕ) → Filled f old new lo hi → lo ≤ hi → hi ≤ hi' → ((j : ℕ) → hi ≤ j → j < hi' → at old j ≡ f j)
      → Filled f old new lo hi'
  kept {new} {lo} {hi} hi' F h l e =
      record {
        long = F.long;
        before = F.before;
        inside = λ j a b. ⊎_elim (λ (p : j < hi). F.inside j a p) (λ (p : hi ≤ j). F.past j p ∙ e j p b) (cut j hi);
        past = λ j k. F.past j (omega arith);
      }

  -- Two stretches one after the other.
  pub more :
      {g : ℕ → ℕ} {mid new : List ℕ} {lo hi hi' : ℕ}
      → Filled f old mid lo hi
      → Filled g mid new hi hi'
      → lo ≤ hi
      → hi ≤ hi'
      → ((j : ℕ) → hi ≤ j → j < hi' → g j ≡ f j)
      → Filled f old new lo hi'
  more {hi = hi} F G h l e =
      record {
        long = G.long ∙ F.long;
        before = λ j k. G.before j (omega arith) ∙ F.before j k;
        inside = λ j a b. ⊎_elim (λ (p : j < hi). G.before j p ∙ F.inside j a p) (λ (p : hi ≤ j). G.inside j p b ∙ e j p b) (cut j hi);
        past = λ j k. G.past j k ∙ F.past j (omega arith);
      }

  -- The same, said with other bounds and another function.
  pub fit :
      {g : ℕ → ℕ} {new : List ℕ} {lo hi lo' hi' : ℕ}
      → Filled f old new lo hi
      → lo ≡ lo'
      → hi ≡ hi'
      → ((j : ℕ) → lo ≤ j → j < hi → f j ≡ g j)
      → Filled g old new lo' hi'
  fit F a b e =
      record {
        long = F.long;
        before = λ j k. F.before j (omega arith);
        inside = λ j k l. F.inside j (omega arith) (omega arith) ∙ e j (omega arith) (omega arith);
        past = λ j k. F.past j (omega arith);
      }
