-- A part of a list that was lent and came back: its elements, and what was filled in it said of the whole list. Assumes nothing.
use Prim.Native.Nat.{ℕ, ◌+◌, ◌-◌, ◌≤◌, ◌<◌}
use native.Mathlib.Omega.{arith}
use mathlib.Core.Path.{◌≡◌, sym, ap, ◌∙◌}
use mathlib.Core.Logic.{⊎_elim}
use mathlib.Core.List.{List, ◌++◌}
use lib.ListN.{length, take, drop, replicate, length-drop, length-append, length-replicate, get_or-replicate, get_or-append}
use lib.Seq.{get_or-take, get_or-drop, get_or-append-add, length-take-le}
use borrow.Rule.Slice.PartMut.{mid_of, put_mid}
use Rattle.buffers.specs.Filled.{Filled, at}
use Rattle.buffers.proofs.Fill.{cut}

module _ (a k : ℕ) (xs : List ℕ) where
  pub mid_at : (j : ℕ) → j < k → at (mid_of a k xs) j ≡ at xs (a + j)
  mid_at j h = get_or-take k (drop a xs) j 0 h ∙ get_or-drop a xs j 0

  pub mid_long : a + k ≤ length xs → length (mid_of a k xs) ≡ k
  mid_long h = length-take-le k (drop a xs) (let e = length-drop a xs in omega arith)

  module _ (ys : List ℕ) (fits : a + k ≤ length xs) (long : length ys ≡ k) where
    front : length (take a xs) ≡ a
    front = length-take-le a xs (omega arith)

    pub put_long : length (put_mid a k xs ys) ≡ length xs
    put_long =
        let e = length-append (take a xs) (ys ++ drop k (drop a xs)) in
        let d = length-append ys (drop k (drop a xs)) in
        let c = length-drop k (drop a xs) in
        let b = length-drop a xs in
        let f = front in
        omega arith

    pub put_before : (j : ℕ) → j < a → at (put_mid a k xs ys) j ≡ at xs j
    put_before j h =
        get_or-append (take a xs) (ys ++ drop k (drop a xs)) 0 j (let f = front in omega arith) ∙ get_or-take a xs j 0 h

    inner : (j : ℕ) → at (put_mid a k xs ys) (a + j) ≡ at (ys ++ drop k (drop a xs)) j
    inner j =
        ap (λ (x : ℕ). at (put_mid a k xs ys) (x + j)) (sym front) ∙ get_or-append-add (take a xs) (ys ++ drop k (drop a xs)) j 0

    pub put_inside : (j : ℕ) → a ≤ j → j < a + k → at (put_mid a k xs ys) j ≡ at ys (j - a)
    put_inside j h l =
        let e : j ≡ a + (j - a) = omega arith in
        ap (λ (x : ℕ). at (put_mid a k xs ys) x) e ∙ inner (j - a) ∙ get_or-append ys (drop k (drop a xs)) 0 (j - a) (omega arith)

    pub put_past : (j : ℕ) → a + k ≤ j → at (put_mid a k xs ys) j ≡ at xs j
    put_past j h =
        let e : j ≡ a + (length ys + (j - a - k)) = omega arith in
        let d : a + (k + (j - a - k)) ≡ j = omega arith in
        ap (λ (x : ℕ). at (put_mid a k xs ys) x) e
        ∙ inner (length ys + (j - a - k))
        ∙ get_or-append-add ys (drop k (drop a xs)) (j - a - k) 0
        ∙ get_or-drop k (drop a xs) (j - a - k) 0
        ∙ get_or-drop a xs (k + (j - a - k)) 0
        ∙ ap (λ (x : ℕ). at xs x) d

-- What was filled in the part, said of the whole.
pub part_filled :
    (a k : ℕ) {f : ℕ → ℕ} {xs ys : List ℕ} {lo hi : ℕ}
    → Filled f (mid_of a k xs) ys lo hi
    → a + k ≤ length xs
    → lo ≤ hi
    → hi ≤ k
    → Filled (λ j. f (j - a)) xs (put_mid a k xs ys) (a + lo) (a + hi)
part_filled a k {f} {xs} {ys} {lo} {hi} F fits o h =
    let m : length ys ≡ k = F.long ∙ mid_long a k xs fits in
    let back : (j : ℕ) → a ≤ j → j < a + k → at (mid_of a k xs) (j - a) ≡ at xs j = λ j p q.
    mid_at a k xs (j - a) (omega arith) ∙ ap (λ (x : ℕ). at xs x) (let e : a + (j - a) ≡ j = omega arith in e) in
    record {
      long = put_long a k xs ys fits m;
      before = λ j l. ⊎_elim
          (λ (p : j < a). put_before a k xs ys fits m j p)
          (λ (p : a ≤ j).
          put_inside a k xs ys fits m j p (omega arith) ∙ F.before (j - a) (omega arith) ∙ back j p (omega arith))
          (cut j a);
      inside = λ j l r. put_inside a k xs ys fits m j (omega arith) (omega arith) ∙ F.inside (j - a) (omega arith) (omega arith);
      past = λ j l. ⊎_elim
          (λ (p : j < a + k).
          put_inside a k xs ys fits m j (omega arith) p ∙ F.past (j - a) (omega arith) ∙ back j (omega arith) p)
          (λ (p : a + k ≤ j). put_past a k xs ys fits m j p)
          (cut j (a + k));
    }

-- A part that came back as zeros.
pub part_zeros :
    (a k : ℕ) (xs ys : List ℕ) → ys ≡ replicate (length (mid_of a k xs)) 0 → a + k ≤ length xs
    → Filled (λ j. 0) xs (put_mid a k xs ys) a (a + k)
part_zeros a k xs ys e fits =
    let m : length ys ≡ k = ap length e ∙ length-replicate (length (mid_of a k xs)) 0 ∙ mid_long a k xs fits in
    let l = mid_long a k xs fits in
    record {
      long = put_long a k xs ys fits m;
      before = put_before a k xs ys fits m;
      inside = λ j p q.
          put_inside a k xs ys fits m j p q
          ∙ ap (λ (zs : List ℕ). at zs (j - a)) e
          ∙ get_or-replicate (length (mid_of a k xs)) (j - a) 0 0 (omega arith);
      past = put_past a k xs ys fits m;
    }

-- The element of two joined lists, in either.
pub joined_first : (xs ys : List ℕ) (a j : ℕ) → length xs ≡ a → j < a → at (xs ++ ys) j ≡ at xs j
joined_first xs ys a j e h = get_or-append xs ys 0 j (omega arith)

pub joined_second : (xs ys : List ℕ) (a j : ℕ) → length xs ≡ a → a ≤ j → at (xs ++ ys) j ≡ at ys (j - a)
joined_second xs ys a j e h =
    let d : j ≡ length xs + (j - a) = omega arith in
    ap (λ (x : ℕ). at (xs ++ ys) x) d ∙ get_or-append-add xs ys (j - a) 0
