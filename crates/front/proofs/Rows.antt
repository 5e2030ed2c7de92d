-- Rows of the front, piece by piece: a piece that is done adds its words and its count; a scan that shows nothing to drop is a piece done.
-- Assumes nothing.
use Prim.Native.Nat.{ℕ, ◌+◌, ◌-◌, ◌*◌, ◌/◌, ◌≤◌, ◌<◌, min}
use native.Mathlib.Omega.{arith}
use native.Mathlib.Nat.{mul-add-div_right, div-eq_of_lt, div-lt_iff_lt-mul}
use mathlib.Core.Path.{◌≡◌, refl, sym, ap, ap₂, ◌∙◌, subst}
use mathlib.Core.Bool.{Bool, true, false}
use mathlib.Core.List.{List}
use lib.ListN.{length}
use borrow.Rule.Slice.PartMut.{mid_of, put_mid}
use Rattle.buffers.specs.Filled.{at}
use Rattle.buffers.proofs.Fill.{none, kept, more, fit}
use Rattle.buffers.proofs.Parts.{mid_at, mid_long, part_filled}
use Rattle.records.specs.Words.{is_held}
use Rattle.editing.specs.Held.{kept_word, held_to}
use Rattle.words.specs.Counted.{Counted}
use Rattle.front.specs.Front.{kept_at, KeptRows, AllStay}
use Rattle.editing.proofs.Held.{held_add, held_same, held_most}
use Rattle.words.proofs.Turns.{counted_all}
use Rattle.front.proofs.Pieces.{Piece}
use Rattle.words.proofs.Kept as words

-- A row's words in rows that were lent are the words of the whole.
same_row :
    (R s i a k x : ℕ) (old mid : List ℕ) → 1 ≤ R → a ≡ i * R → x < k → at mid (a + x) ≡ at old (a + x)
    → kept_at R (s - i) 0 (mid_of a k mid) x ≡ kept_at R s 0 old (a + x)
same_row R s i a k x old mid h e l w =
    let row : (a + x) / R ≡ i + x / R = ap (λ (y : ℕ). (y + x) / R) e ∙ mul-add-div_right {m = R} h i x in
    let place : s - i - (0 + x / R) ≡ s - (0 + (a + x) / R) = omega arith in
    ap₂ kept_word place (mid_at a k mid x l ∙ w)

pub rows_more :
    {c b : ℕ} {old mid ys : List ℕ} (R s i a k : ℕ)
    → 1 ≤ R
    → a ≡ i * R
    → a + k ≤ length old
    → KeptRows R s 0 old mid a c
    → KeptRows R (s - i) 0 (mid_of a k mid) ys k b
    → KeptRows R s 0 old (put_mid a k mid ys) (a + k) (c + b)
rows_more {c} {b} {old} {mid} {ys} R s i a k h e fits C D =
    let F = C.filled in
    let long = F.long in
    let G = part_filled a k D.filled (omega arith) (omega arith) (omega arith) in
    let same : (x : ℕ) → x < k → kept_at R (s - i) 0 (mid_of a k mid) x ≡ kept_at R s 0 old (a + x) =
    λ x l. same_row R s i a k x old mid h e l (F.past (a + x) (omega arith)) in
    let sum = held_add (kept_at R s 0 old) a k in
    let part = held_same (kept_at R (s - i) 0 (mid_of a k mid)) (λ x. kept_at R s 0 old (a + x)) k same in
    let first = C.counted in
    let second = D.counted in
    record {
      filled = more
          F
          (fit G (omega arith) refl (λ j p o. refl))
          (omega arith)
          (omega arith)
          (λ j x y.
          let back : a + (j - a) ≡ j = omega arith in
          same (j - a) (omega arith) ∙ ap (λ (y : ℕ). kept_at R s 0 old y) back);
      counted = omega arith;
    }

-- One row.
one_row :
    {c : ℕ} {w ys : List ℕ} (R limit : ℕ)
    → length w ≡ R
    → Counted (λ j. kept_word limit (at w j)) w ys 0 (length w) (λ j. kept_word limit (at w j)) (length w) c
    → KeptRows R limit 0 w ys R c
one_row {c} {w} {ys} R limit l C =
    let same : (j : ℕ) → j < R → kept_word limit (at w j) ≡ kept_at R limit 0 w j = λ j o.
    let row : j / R ≡ 0 = div-eq_of_lt {n = j} {m = R} o in
    let place : limit ≡ limit - (0 + j / R) = omega arith in
    ap (λ (y : ℕ). kept_word y (at w j)) place in
    record {
      filled = fit C.filled refl l (λ j a b. same j (omega arith));
      counted =
          C.counted ∙ ap (held_to (λ j. kept_word limit (at w j))) l
          ∙ held_same (λ j. kept_word limit (at w j)) (kept_at R limit 0 w) R same;
    }

-- The rows done, and one row more.
pub row_done :
    {c b : ℕ} {old mid ys : List ℕ} (R s i k : ℕ)
    → 1 ≤ R
    → k ≡ R
    → i * R + R ≤ length old
    → KeptRows R s 0 old mid (i * R) c
    → Counted
    (λ j. kept_word (s - i) (at (mid_of (i * R) k mid) j))
    (mid_of (i * R) k mid)
    ys
    0
    (length (mid_of (i * R) k mid))
    (λ j. kept_word (s - i) (at (mid_of (i * R) k mid) j))
    (length (mid_of (i * R) k mid))
    b
    → KeptRows R s 0 old (put_mid (i * R) k mid ys) ((i + 1) * R) (c + b)
row_done {mid = mid} R s i k h e fits C D =
    let long = C.filled.long in
    let w : length (mid_of (i * R) k mid) ≡ R = mid_long (i * R) k mid (omega arith) ∙ e in
    let E = counted_all (one_row R (s - i) w D) (sym e) in
    counted_all (rows_more R s i (i * R) k h refl (omega arith) C E) (omega arith)

-- A piece that was lent from rows that are as long as the whole.
abbrev pub words_of : (R row next : ℕ) → List ℕ → List ℕ
words_of R row next mid = mid_of (row * R) (row * R + next * R - row * R) mid

-- The pieces before one, and that one: what the rows are then, and the count.
pub piece_done :
    (s : ℕ) {c b d : ℕ} {old mid ys new : List ℕ} {R rows size piece next : ℕ}
    → 1 ≤ R
    → length old ≡ rows * R
    → Piece R rows size piece next
    → let row : ℕ = piece * size in
    new ≡ put_mid (row * R) (row * R + next * R - row * R) mid ys
    → d ≡ b
    → KeptRows R s 0 old mid (min row rows * R) c
    → KeptRows R (s - row) 0 (words_of R row next mid) ys (next * R) b
    → KeptRows R s 0 old new (min ((piece + 1) * size) rows * R) (c + d)
piece_done s {c} {b} {d} {old} {mid} {ys} {new} {R} {rows} {size} {piece} {next} h l P is count C D =
    let row : ℕ = piece * size in
    let k : ℕ = row * R + next * R - row * R in
    let room = P.room in
    let e : k ≡ next * R = omega arith in
    let all : row * R + k ≡ (row + next) * R = omega arith in
    let end : ℕ = min ((piece + 1) * size) rows in
    let E =
    counted_all
    (rows_more R s row (row * R) k h refl (omega arith) (counted_all C (ap (λ (x : ℕ). x * R) P.begins)) (counted_all D (sym e)))
    (all ∙ ap (λ (x : ℕ). x * R) (sym P.ends)) in
    subst
    (λ (xs : List ℕ). KeptRows R s 0 old xs (end * R) (c + d))
    (sym is)
    (subst (λ (x : ℕ). KeptRows R s 0 old (put_mid (row * R) k mid ys) (end * R) (c + x)) (sym count) E)

-- The count of the rows done and of a part more is at most their words.
pub counts_fit :
    {f g : ℕ → ℕ} {old mid w ys : List ℕ} {a k c b : ℕ} → Counted f old mid 0 a f a c → Counted g w ys 0 k g k b → c + b ≤ a + k
counts_fit {f} {g} {a = a} {k = k} C D =
    let x = held_most f a in
    let y = held_most g k in
    let first = C.counted in
    let second = D.counted in
    omega arith

-- The same of a piece: it is within all the rows.
pub piece_counts :
    (s : ℕ) {c b d : ℕ} {old mid ys : List ℕ} {R rows size piece next : ℕ}
    → Piece R rows size piece next
    → d ≡ b
    → KeptRows R s 0 old mid (min (piece * size) rows * R) c
    → KeptRows R (s - piece * size) 0 (words_of R (piece * size) next mid) ys (next * R) b
    → c + d ≤ rows * R
piece_counts s {R = R} P e C D =
    let few = counts_fit C D in let room = P.room in let done = ap (λ (x : ℕ). x * R) P.begins in omega arith

-- Rows of which a scan shows that nothing is to be dropped.
pub none_dropped :
    {w : List ℕ} {limit held : ℕ} (R s rows : ℕ)
    → 1 ≤ R
    → length w ≡ rows * R
    → limit + rows ≡ s + 1
    → AllStay w limit held
    → KeptRows R s 0 w w (rows * R) held
none_dropped {w} {limit} {held} R s rows h l e S =
    record {
      filled = kept (rows * R) (none 0) (omega arith) (omega arith) (λ j a b. sym (same j b));
      counted = S.counted ∙ ap (held_to (at w)) l ∙ held_same (at w) (kept_at R s 0 w) (rows * R) (λ j b. sym (same j b));
    }
  where
    by : (j : ℕ) → j < rows * R → (t : Bool) → is_held (at w j) ≡ t → kept_at R s 0 w j ≡ at w j
    by j b true g =
        let row : j / R < rows = (div-lt_iff_lt-mul {k = R} {x = j} {y = rows} h).1 b in
        let small = S.bound j (omega arith) in
        words.kept (s - (0 + j / R)) (at w j) g (omega arith)
    by j b false g = words.kept_empty (s - (0 + j / R)) (at w j) g ∙ sym (S.empty j (omega arith) g)

    same : (j : ℕ) → j < rows * R → kept_at R s 0 w j ≡ at w j
    same j b = by j b (is_held (at w j)) refl

-- The same of the words of a piece.
pub piece_stays :
    {held : ℕ} (s : ℕ) (mid : List ℕ) {R rows size piece next : ℕ}
    → 1 ≤ R
    → rows ≤ s
    → length mid ≡ rows * R
    → Piece R rows size piece next
    → AllStay (words_of R (piece * size) next mid) (s - (piece * size + next - 1)) held
    → KeptRows R (s - piece * size) 0 (words_of R (piece * size) next mid) (words_of R (piece * size) next mid) (next * R) held
piece_stays {held} s mid {R} {rows} {size} {piece} {next} h o l P S =
    let row : ℕ = piece * size in
    let room = P.room in
    let fits = P.fits in
    let some = P.some in
    let long = mid_long (row * R) (row * R + next * R - row * R) mid (omega arith) in
    none_dropped R (s - row) next h (omega arith) (omega arith) S
