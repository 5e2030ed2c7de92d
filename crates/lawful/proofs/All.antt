-- What `all` tells of the items that an iterator gives, by a test that tells P of each; of the numbers below n, and of the front of a slice.
-- Assumes nothing.
use Rattle.std.proofs.Common.{ℕ, ◌≡◌, ◌<◌, ◌≤◌, ◌↔◌, Bool, true, false, List, length, take, IsTrue, slice_index_or, arith, refl, sym, ◌∙◌}
use mathlib.Core.Bool.{true≢false}
use Rattle.std.specs.Prelude.{Option, MatchOption, MatchBool}
use Rattle.std.specs.Fn.{Called}
use Rattle.std.specs.List.{range_with_len, FoldsTo, AllWithin, HoldsAt}
use Rattle.std.specs.Iterator.{YieldsThen}
use Rattle.std.specs.declared.ops.Range.{Range}
use Rattle.std.specs.declared.slice.Iter.{Iter}
use Rattle.std.specs.Slice.Iter.{iter_rest}
use Rattle.std.proofs.iter.Yields.{nat_range_steps, fronts}
use Rattle.std.proofs.lemmas.Iterator.{YieldsList, YieldsList-from_range, YieldsList-from_slice, cases_from_all}
use Rattle.std.proofs.lemmas.List.FromFn.{length-range_with_len, get_or-range_with_len}
use Rattle.std.proofs.lemmas.List.{length-take-le, get_or-take}
use denote.Param.Members.{Mut}
use denote.Ref.{Bor}

-- What `all` ensures in its clause `ran`.
abbrev pub AllRan : {S A F : Type 0} → (S → Option A → S → Type 0) → Mut F (A × Unit {0}) Bool → S → F → Bool → S → Type 0
AllRan {S} {A} {F} steps g s f r u =
    (xs : List A) × (o : Option A) × (j : F) × YieldsThen steps s xs o u × FoldsTo (λ p x q. Called g p (x, tt) true q) f xs j
    × MatchOption o (r ≡ true) (λ x. (r ≡ false) × ((h : F) × Called g j (x, tt) false h))

-- The test leaves the closure as it is, and tells P of the item.
abbrev pub TestTells : {A B F : Type 0} → (A → B) → Mut F (A × Unit {0}) Bool → F → (B → Type 0) → Type 0
TestTells {A} {B} {F} v g f P = (x : A) (b : Bool) (q : F) → Called g f (x, tt) b q → (q ≡ f) × (IsTrue b ↔ P (v x))

pub told_all :
    {S A B F : Type 0} {steps : S → Option A → S → Type 0} {v : A → B} {g : Mut F (A × Unit {0}) Bool} {s : S} {ys : List B}
    (u : S) (f : F) (r : Bool) (d : B) (P : B → Type 0)
    → AllRan steps g s f r u
    → YieldsList steps v s ys
    → TestTells v g f P
    → IsTrue r ↔ ((k : ℕ) → k < length ys → P (slice_index_or ys k d))
told_all {A = A} {B = B} {F = F} {v = v} {g = g} {ys = ys} u f r d P ran gives tells =
    go r (cases_from_all u f r P (λ x. P x → ⊥) ran gives yes no)
  where
    yes : (x : A) (q : F) → Called g f (x, tt) true q → (q ≡ f) × P (v x)
    yes x q k = let t = tells x true q k in (t.0, t.1.0 refl)

    no : (x : A) (q : F) → Called g f (x, tt) false q → P (v x) → ⊥
    no x q k p = true≢false (sym ((tells x false q k).1.1 p))

    go : (b : Bool)
        → MatchBool b (AllWithin P ys 0 (length ys)) ((k : ℕ) × (k < length ys) × HoldsAt (λ x. P x → ⊥) ys k)
        → IsTrue b ↔ ((k : ℕ) → k < length ys → P (slice_index_or ys k d))
    go true all = ((λ t k l. all k d (omega arith) l), (λ h. refl))
    go false some = ((λ t. absurd (true≢false (sym t))), (λ h. absurd (some.2 d (h some.0 some.1))))

pub told_below :
    {F : Type 0} {g : Mut F (ℕ × Unit {0}) Bool} {s : Range ℕ} (u : Range ℕ) (f : F) (r : Bool) (n : ℕ) (P : ℕ → Type 0)
    → s ≡ record { start = 0; end = n }
    → AllRan nat_range_steps g s f r u
    → TestTells (λ x. x) g f P
    → IsTrue r ↔ ((k : ℕ) → k < n → P k)
told_below u f r n P e ran tells =
    let t = told_all u f r 0 P ran (YieldsList-from_range 0 n n e (omega arith)) tells in (
      (λ is k l. rw (at_place k l) at (t.0 is k (omega (arith, l, length-range_with_len 0 n)))),
      (λ h. t.1 (λ k l. let m : k < n = omega (arith, l, length-range_with_len 0 n) in rw (at_place k m) (h k m))),
    )
  where
    at_place : (k : ℕ) → k < n → slice_index_or (range_with_len 0 n) k 0 ≡ k
    at_place k l = get_or-range_with_len 0 n k 0 l ∙ omega arith

pub told_front :
    {A F : Type 0} {g : Mut F (Bor A × Unit {0}) Bool} {s : Iter A} (u : Iter A) (f : F) (r : Bool) (n : ℕ) (xs : List A) (d : A) (P : A → Type 0)
    → n ≤ length xs
    → iter_rest s ≡ take n xs
    → AllRan fronts g s f r u
    → TestTells (λ x. x.now) g f P
    → IsTrue r ↔ ((k : ℕ) → k < n → P (slice_index_or xs k d))
told_front u f r n xs d P h e ran tells =
    let t = told_all u f r d P ran (YieldsList-from_slice (take n xs) e) tells in
    let long = length-take-le n xs h in (
      (λ is k l. rw (get_or-take n xs k d l) at (t.0 is k (omega (arith, l, long)))),
      (λ h. t.1 (λ k l. let m : k < n = omega (arith, l, long) in rw (get_or-take n xs k d m) (h k m))),
    )
