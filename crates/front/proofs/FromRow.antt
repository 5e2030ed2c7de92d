-- Rows that begin with that of a position q are as rows that begin with that of position 0, with s − q for s. Assumes nothing.
--     at_row, from_row    the one from the other
--     part_done           the rows done, and a part of several rows more
--     nothing_dropped     rows of which a scan shows that nothing is to be dropped
use Prim.Native.Nat.{ℕ, zero, suc, ◌+◌, ◌-◌, ◌*◌, ◌/◌, ◌≤◌}
use native.Mathlib.Omega.{arith}
use mathlib.Core.Path.{◌≡◌, refl, sym, ap, subst}
use mathlib.Core.List.{List}
use lib.ListN.{length}
use borrow.Rule.Slice.PartMut.{mid_of, put_mid}
use Rattle.buffers.specs.Filled.{at}
use Rattle.editing.specs.Held.{kept_word}
use Rattle.words.specs.Counted.{Counted}
use Rattle.words.proofs.Turns.{counted_all}
use Rattle.front.specs.Front.{kept_at, KeptRows, AllStay}
use Rattle.front.proofs.Rows.{rows_more, none_dropped}

module _ (R s q : ℕ) (old : List ℕ) where
  same_at : kept_at R (s - q) 0 old ≡ kept_at R s q old
  same_at = λ i j. (let e : s - q - (0 + j / R) ≡ s - (q + j / R) = omega arith in ap (λ (x : ℕ). kept_word x (at old j)) e) i

  pub at_row : {new : List ℕ} {k c : ℕ} → KeptRows R (s - q) 0 old new k c → KeptRows R s q old new k c
  at_row {new} {k} {c} K = subst (λ (f : ℕ → ℕ). Counted f old new 0 k f k c) same_at K

  pub from_row : {new : List ℕ} {k c : ℕ} → KeptRows R s q old new k c → KeptRows R (s - q) 0 old new k c
  from_row {new} {k} {c} K = subst (λ (f : ℕ → ℕ). Counted f old new 0 k f k c) (sym same_at) K

pub part_done :
    {c b : ℕ} {old mid ys : List ℕ} (R s q p i rows k : ℕ)
    → 1 ≤ R
    → p ≡ q + i
    → k ≡ rows * R
    → i * R + rows * R ≤ length old
    → KeptRows R s q old mid (i * R) c
    → KeptRows R s p (mid_of (i * R) k mid) ys (rows * R) b
    → KeptRows R s q old (put_mid (i * R) k mid ys) ((i + rows) * R) (c + b)
part_done {c} {b} {old} {mid} {ys} R s q p i rows k h o e fits C D =
    let part = mid_of (i * R) k mid in
    let place : s - p ≡ s - q - i = omega arith in
    let later : KeptRows R (s - q - i) 0 part ys k b =
    subst (λ (t : ℕ). KeptRows R t 0 part ys k b) place (counted_all (from_row R s p part D) (sym e)) in
    counted_all (at_row R s q old (rows_more R (s - q) i (i * R) k h refl (omega arith) (from_row R s q old C) later)) (omega arith)

pub nothing_dropped :
    {w : List ℕ} {held : ℕ} (R s q rows : ℕ)
    → 1 ≤ R
    → q + rows ≤ s
    → length w ≡ rows * R
    → AllStay w (s - (q + rows - 1)) held
    → KeptRows R s q w w (rows * R) held
nothing_dropped {w} R s q zero h o l S =
    at_row R s q w
    (none_dropped {limit = s - q + 1} R (s - q) 0 h l (omega arith)
    (record { counted = S.counted; bound = λ j b. absurd (omega (arith, l, b)); empty = S.empty }))
nothing_dropped {w} R s q (suc r) h o l S = at_row R s q w (none_dropped R (s - q) (suc r) h l (omega arith) S)
