-- The two cases of an edit, slot by slot and pair by pair: a word that stays, a word that comes, and where it was. Assumes nothing.
use Prim.Native.Nat.{ℕ, ◌+◌, ◌-◌, ◌*◌, ◌≤◌, ◌<◌}
use native.Mathlib.Omega.{arith}
use native.Mathlib.Nat.{mul-le-mul_right}
use mathlib.Core.Path.{◌≡◌, refl, sym, ap, ap₂, ◌∙◌}
use mathlib.Core.Bool.{Bool, true, false, cond, ◌&&◌}
use mathlib.Core.Logic.{⊎_elim}
use lib.Dec.{leb, ltb}
use borrow.Author.Tests.{le-leb, lt-leb, lt-ltb, le-ltb}
use Rattle.buffers.proofs.Fill.{cut}
use Rattle.records.specs.Words.{is_held, examined_of}
use Rattle.records.specs.Slots.{slot_of}
use Rattle.records.proofs.Slots.{before_row, in_row}
use Rattle.editing.specs.Table.{stays, comes, came_from}
use Rattle.editing.specs.Held.{only_held, kept_word}

-- "q + examined ≤ s", said of what is left before s.
same_test : (s q x : ℕ) → q ≤ s → leb x (s - q) ≡ leb (q + x) s
same_test s q x h = ⊎_elim
    (λ (p : s < q + x). lt-leb x (s - q) (omega arith) ∙ sym (lt-leb (q + x) s p))
    (λ (p : q + x ≤ s). le-leb x (s - q) (omega arith) ∙ sym (le-leb (q + x) s p))
    (cut s (q + x))

-- A word before s stays or is 0: the second case is behind the edit.
pub kept_is :
    (n s e k q w u : ℕ) → q < s → kept_word (s - q) w ≡ cond (stays s q w) w (cond (comes n s e k q u) u 0)
unfolding kept_word
kept_is n s e k q w u h =
    simp (le-leb q s (omega arith), lt-leb (s + k) q (omega arith), same_test s q (examined_of w) (omega arith))

-- A word at s stays where it examined nothing.
pub stays_is : (s w y : ℕ) → cond (is_held (kept_word 0 w)) (kept_word 0 w) y ≡ cond (stays s s w) w y
unfolding kept_word
stays_is s w y =
    go (is_held w) (leb (examined_of w) 0) refl refl
    ∙ ap
    (λ (b : Bool). cond b w y)
    (ap₂ ◌&&◌ (sym (le-leb s s (omega arith))) (ap (λ (t : Bool). is_held w && t) test))
  where
    test : leb (examined_of w) 0 ≡ leb (s + examined_of w) s
    test = ap (leb (examined_of w)) (let z : 0 ≡ s - s = omega arith in z) ∙ same_test s s (examined_of w) (omega arith)

    go :
        (a b : Bool) → is_held w ≡ a → leb (examined_of w) 0 ≡ b
        → cond (is_held (cond (is_held w && leb (examined_of w) 0) w 0)) (cond (is_held w && leb (examined_of w) 0) w 0) y
        ≡ cond (is_held w && leb (examined_of w) 0) w y
    go true true p q = simp (p, q)
    go true false p q = simp (p, q)
    go false b p q = simp p

-- A word past s cannot stay.
pub comes_only : (s q w y : ℕ) → s < q → y ≡ cond (stays s q w) w y
comes_only s q w y h = simp (lt-leb q s h)

-- The word that came, slot by slot and pair by pair.
pub came_is :
    (a b c d : Bool) (u v : ℕ) → a ≡ c → b ≡ d → (c ≡ true → d ≡ true → v ≡ u)
    → cond (a && b) (only_held v) 0 ≡ cond (c && (d && is_held u)) u 0
came_is a b c d u v p q w = ap₂ (λ (x y : Bool). cond (x && y) (only_held v) 0) p q ∙ go c d w
  where
    go : (x y : Bool) → (x ≡ true → y ≡ true → v ≡ u) → cond (x && y) (only_held v) 0 ≡ cond (x && (y && is_held u)) u 0
    go false y h = refl
    go true false h = refl
    go true true h = ap only_held (h refl refl)

module _ (R s k rule : ℕ) (below : rule < R) where
  -- Which slots lie behind the new words.
  pub from_new : (d : ℕ) → leb (k * R) (slot_of R rule d) ≡ leb (s + k) (s + d)
  from_new d = ⊎_elim
      (λ (p : d < k). lt-leb (k * R) (slot_of R rule d) (before_row R rule d k below p) ∙ sym (lt-leb (s + k) (s + d) (omega arith)))
      (λ (p : k ≤ d).
      let m : k * R ≤ d * R = mul-le-mul_right R p in
      let o = in_row R rule d in
      le-leb (k * R) (slot_of R rule d) (omega arith) ∙ sym (le-leb (s + k) (s + d) (omega arith)))
      (cut d k)

  -- And before the end of the carried ones.
  pub to_end : (d t m : ℕ) → m ≡ s + k + t → ltb (slot_of R rule d) (k * R + (t + 1) * R) ≡ leb (s + d) m
  to_end d t m e = ⊎_elim
      (λ (p : d < k + (t + 1)).
      let l = before_row R rule d (k + (t + 1)) below p in
      lt-ltb (slot_of R rule d) (k * R + (t + 1) * R) (omega arith) ∙ sym (le-leb (s + d) m (omega arith)))
      (λ (p : k + (t + 1) ≤ d).
      let l : (k + (t + 1)) * R ≤ d * R = mul-le-mul_right R p in
      let o = in_row R rule d in
      le-ltb (slot_of R rule d) (k * R + (t + 1) * R) (omega arith) ∙ sym (lt-leb (s + d) m (omega arith)))
      (cut d (k + (t + 1)))

  moved : (i g : ℕ) → s * R + (g * R + (slot_of R rule (k + i) - k * R)) ≡ slot_of R rule (s + i + g)
  moved i g =
      let a = in_row R rule (k + i) in
      let b = in_row R rule (s + i + g) in
      omega arith

  -- Where a carried word was.
  pub came_from_lem : (d e : ℕ) → k ≤ d → s * R + ((e - s) * R + (slot_of R rule d - k * R)) ≡ slot_of R rule (came_from s e k (s + d))
  came_from_lem d e h =
      let i : ℕ = d - k in
      let a : d ≡ k + i = omega arith in
      ap (λ (x : ℕ). s * R + ((e - s) * R + (slot_of R rule x - k * R))) a
      ∙ moved i (e - s)
      ∙ ap (slot_of R rule) (let o : s + i + (e - s) ≡ s + d - k + (e - s) = omega arith in o)

pub below_rest : (a i j size : ℕ) → a + i ≡ j → j < size → i < size - a
below_rest a i j size e h = omega arith
