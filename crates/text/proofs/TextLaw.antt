-- Theorems `edited_by` and `fill_is`: a move, a copy and zeros in lent parts of the buffer are the edit and the opening of the text.
-- Assumes nothing.
use Prim.Native.Nat.{ℕ, ◌+◌, ◌-◌, ◌≤◌, ◌<◌}
use native.Mathlib.Omega.{arith}
use mathlib.Core.Path.{◌≡◌, refl, sym, ap, ◌∙◌, subst}
use mathlib.Core.Logic.{⊎_elim}
use mathlib.Core.List.{List, ◌++◌}
use lib.ListN.{length, take, drop, replicate, length-append, length-drop, length-replicate, get_or-replicate}
use lib.Seq.{get_or-take, get_or-drop, length-take-le, ext_get_or}
use borrow.Rule.Slice.PartMut.{mid_of, put_mid}
use Rattle.buffers.specs.Filled.{Filled, at}
use Rattle.buffers.proofs.Fill.{cut}
use Rattle.buffers.proofs.Parts.{mid_at, part_filled, part_zeros, joined_first, joined_second}
use Rattle.editing.specs.Text.{EditFits, new_length, text_after, opened}
use Rattle.editing.proofs.Lengths.{new_is}

in_tail : (s k t j : ℕ) → j < s + k + t → s + k ≤ j → j - s - k < t
in_tail s k t j h l = omega arith

past_tail : (s k t j : ℕ) → s + k + t ≤ j → t ≤ j - s - k
past_tail s k t j h = omega arith

in_zeros : (s k t j len z : ℕ) → s + k + t ≤ j → j < len → z + (s + k + t) ≡ len → j - s - k - t < z
in_zeros s k t j len z h l e = omega arith

full_is : (len m end : ℕ) → m ≡ end → m ≤ len → len - m + end ≡ len
full_is len m end e h = omega arith

there : (s e i : ℕ) → s ≤ e → s + (e - s + i) ≡ e + i
there s e i h = omega arith

-- The end of the edited text.
abbrev end_of : (n s e : ℕ) → List ℕ → ℕ
end_of n s e r = s + length r + (n - e)

module _ (t r : List ℕ) (n s e : ℕ) (fits : EditFits (length t) n s e (length r)) where
  -- A list that agrees with the edited text in its four stretches.
  is_after :
      (new : List ℕ)
      → length new ≡ length t
      → ((j : ℕ) → j < s → at new j ≡ at t j)
      → ((j : ℕ) → s ≤ j → j < s + length r → at new j ≡ at r (j - s))
      → ((j : ℕ) → s + length r ≤ j → j < end_of n s e r → at new j ≡ at t (e + (j - s - length r)))
      → ((j : ℕ) → end_of n s e r ≤ j → j < length t → at new j ≡ 0)
      → new ≡ text_after t n s e r
  unfolding text_after
  is_after new long a b c d =
      let zeros : List ℕ = replicate (length t - new_length n s e (length r)) 0 in
      let tail : List ℕ = take (n - e) (drop e t) in
      let front_long : length (take s t) ≡ s = length-take-le s t (omega arith) in
      let drop-long = length-drop e t in
      let tail-long : length tail ≡ n - e = length-take-le (n - e) (drop e t) (omega arith) in
      let zeros-long = length-replicate {A = ℕ} (length t - new_length n s e (length r)) 0 in
      let l1 = length-append (take s t) (r ++ (tail ++ zeros)) in
      let l2 = length-append r (tail ++ zeros) in
      let l3 = length-append tail zeros in
      let full : length t - new_length n s e (length r) + (s + length r + (n - e)) ≡ length t =
      full_is (length t) (new_length n s e (length r)) (s + length r + (n - e)) (new_is n s e (length r) fits.ordered fits.within)
      fits.room in
      let inside : (j : ℕ) → j < length new → j < length t = λ j h. omega arith in
      let after1 : (j : ℕ) → s ≤ j → at (take s t ++ (r ++ (tail ++ zeros))) j ≡ at (r ++ (tail ++ zeros)) (j - s) =
      λ j h. joined_second (take s t) (r ++ (tail ++ zeros)) s j front_long h in
      let after2 : (j : ℕ) → s + length r ≤ j → at (take s t ++ (r ++ (tail ++ zeros))) j ≡ at (tail ++ zeros) (j - s - length r) =
      λ j h. after1 j (omega arith) ∙ joined_second r (tail ++ zeros) (length r) (j - s) refl (omega arith) in
      ext_get_or
      0
      new
      (take s t ++ (r ++ (tail ++ zeros)))
      (omega arith)
      (λ j h. ⊎_elim
      (λ (p : j < s). a j p ∙ sym (joined_first (take s t) (r ++ (tail ++ zeros)) s j front_long p ∙ get_or-take s t j 0 p))
      (λ (p : s ≤ j). ⊎_elim
      (λ (q : j < s + length r). b j p q ∙ sym (after1 j p ∙ joined_first r (tail ++ zeros) (length r) (j - s) refl (omega arith)))
      (λ (q : s + length r ≤ j). ⊎_elim
      (λ (o : j < end_of n s e r).
      c j q o
      ∙ sym
      (after2 j q
      ∙ joined_first tail zeros (n - e) (j - s - length r) tail-long (in_tail s (length r) (n - e) j o q)
      ∙ get_or-take (n - e) (drop e t) (j - s - length r) 0 (in_tail s (length r) (n - e) j o q)
      ∙ get_or-drop e t (j - s - length r) 0))
      (λ (o : end_of n s e r ≤ j).
      d j o (omega arith)
      ∙ sym
      (after2 j q
      ∙ joined_second tail zeros (n - e) (j - s - length r) tail-long (past_tail s (length r) (n - e) j o)
      ∙ get_or-replicate
      (length t - new_length n s e (length r))
      (j - s - length r - (n - e))
      0
      0
      (in_zeros s (length r) (n - e) j (length t) _ o (inside j h) full)))
      (cut j (end_of n s e r)))
      (cut j (s + length r)))
      (cut j s))

  -- The rest from s on is lent to the move and the copy, then what lies past the end is set to zeros.
  abbrev pub Edited : (gone behind : ℕ) → Type 0
  Edited gone behind =
      (moved copied zeros : List ℕ)
      → Filled (λ j. at (mid_of s (length t - s) t) (gone + (j - length r))) (mid_of s (length t - s) t) moved (length r)
      (length r + behind)
      → Filled (at r) moved copied 0 (length r)
      → let whole : List ℕ = put_mid s (length t - s) t copied in
      let end : ℕ = s + length r + behind in
      zeros ≡ replicate (length (mid_of end (length whole - end) whole)) 0
      → put_mid end (length whole - end) whole zeros ≡ text_after t n s e r

  edit_is : Edited (e - s) (n - e)
  edit_is moved copied zeros M C z =
      let rest : List ℕ = mid_of s (length t - s) t in
      let whole : List ℕ = put_mid s (length t - s) t copied in
      let P = part_filled s (length t - s) {f = at copied} {xs = t} {ys = copied} {lo = 0} {hi = length t - s}
      (record {
        long = C.long ∙ M.long;
        before = λ j h. absurd (omega arith);
        inside = λ j h l. refl;
        past = λ j h. beyond j h;
      })
      (omega arith)
      (omega arith)
      (omega arith) in
      let long = P.long in
      let Z = part_zeros (end_of n s e r) (length whole - end_of n s e r) whole zeros z (omega arith) in
      is_after
      (put_mid (end_of n s e r) (length whole - end_of n s e r) whole zeros)
      (Z.long ∙ P.long)
      (λ j h. Z.before j (omega arith) ∙ P.before j (omega arith))
      (λ j h l. Z.before j (omega arith) ∙ P.inside j (omega arith) (omega arith) ∙ C.inside (j - s) (omega arith) (omega arith))
      (λ j h l.
      Z.before j l
      ∙ P.inside j (omega arith) (omega arith)
      ∙ C.past (j - s) (omega arith)
      ∙ M.inside (j - s) (omega arith) (omega arith)
      ∙ mid_at s (length t - s) t (e - s + (j - s - length r)) (omega arith)
      ∙ ap (λ (x : ℕ). at t x) (there s e (j - s - length r) fits.ordered))
      (λ j h l. Z.inside j h (omega arith))
    where
      beyond : (j : ℕ) → length t - s ≤ j → at copied j ≡ at (mid_of s (length t - s) t) j
      beyond j h = C.past j (omega arith) ∙ M.past j (omega arith)

  pub edited_by : (gone behind : ℕ) → gone ≡ e - s → behind ≡ n - e → Edited gone behind
  edited_by gone behind g b =
      subst (λ (x : ℕ). Edited x behind) (sym g) (subst (λ (x : ℕ). Edited (e - s) x) (sym b) edit_is)

-- The text to the front, zeros behind it.
pub fill_is :
    (b t copied zeros : List ℕ)
    → length t ≤ length b
    → Filled (at t) b copied 0 (length t)
    → zeros ≡ replicate (length (mid_of (length t) (length copied - length t) copied)) 0
    → put_mid (length t) (length copied - length t) copied zeros ≡ opened (length b) t
fill_is b t copied zeros h C z =
    let long = C.long in
    let Z = part_zeros (length t) (length copied - length t) copied zeros z (omega arith) in
    let l1 = length-append t (replicate (length b - length t) 0) in
    let l2 = length-replicate {A = ℕ} (length b - length t) 0 in
    let l3 = Z.long in
    ext_get_or
    0
    (put_mid (length t) (length copied - length t) copied zeros)
    (opened (length b) t)
    (omega arith)
    (λ j l. ⊎_elim
    (λ (p : j < length t).
    Z.before j p ∙ C.inside j (omega arith) p ∙ sym (joined_first t (replicate (length b - length t) 0) (length t) j refl p))
    (λ (p : length t ≤ j).
    Z.inside j p (omega arith)
    ∙ sym
    (joined_second t (replicate (length b - length t) 0) (length t) j refl p
    ∙ get_or-replicate (length b - length t) (j - length t) 0 0 (omega arith)))
    (cut j (length t)))
