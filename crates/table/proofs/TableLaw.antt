-- Theorems `table_is` and `standing_is`: the front kept row by row and the back carried are the table after an edit, pair by pair, and as
-- many words are held as the two counts say. Assumes nothing.
use Prim.Native.Nat.{ℕ, ◌+◌, ◌-◌, ◌*◌, ◌/◌, ◌%◌, ◌≤◌, ◌<◌}
use native.Mathlib.Omega.{arith}
use native.Mathlib.Nat.{mod-lt}
use mathlib.Core.Path.{◌≡◌, sym, ap, ap₂, ◌∙◌, subst}
use mathlib.Core.Bool.{cond}
use mathlib.Core.Logic.{⊎_elim}
use mathlib.Core.List.{List, ◌++◌}
use lib.ListN.{length, drop, length-append, length-drop}
use lib.Seq.{get_or-drop, ext_get_or}
use lib.Dec.{leb, ltb}
use borrow.Author.Tests.{leb-true}
use borrow.Rule.Slice.PartMut.{mid_of, put_mid}
use Rattle.buffers.specs.Filled.{at}
use Rattle.buffers.proofs.Fill.{cut}
use Rattle.buffers.proofs.Parts.{mid_at, mid_long, put_long, put_before, put_inside, put_past, joined_first, joined_second}
use Rattle.records.specs.Words.{is_held}
use Rattle.records.specs.Slots.{slot_of, table_size}
use Rattle.records.proofs.Slots as slots
use Rattle.editing.specs.Text.{EditFits, new_length}
use Rattle.editing.specs.Table.{table_word, TableLent, stays, comes, came_from, word_after, tabulate, words_after, table_after, held_in}
use Rattle.editing.specs.Held.{kept_word, held_to}
use Rattle.words.specs.Counted.{Counted}
use Rattle.front.specs.Front.{kept_at}
use Rattle.back.proofs.BackLaw.{count_fits}
use Rattle.back.specs.Back.{came_word, BackFits, Back}
use Rattle.editing.proofs.Lengths.{new_is}
use Rattle.editing.proofs.Held.{held_add, held_same, held_list, held_most}
use Rattle.editing.proofs.Tabulated.{tabulate_long, tabulate-at}
use Rattle.table.proofs.Cases.{kept_is, stays_is, comes_only, came_is, from_new, to_end, came_from_lem, below_rest}
use Rattle.editing.proofs.Lengths.{was_inside}

-- The end of the rows before s, and the words from there on, lie in the table.
front_room : (R cap s : ℕ) → s ≤ cap → s * R ≤ table_size R cap
front_room R cap s h = let m = slots.room R s 0 0 cap (omega arith) in omega arith

module _
    {R cap n s e k : ℕ} {t kept carried : List ℕ} {c d : ℕ}
    (lent : TableLent R cap t)
    (fits : EditFits cap n s e k)
    (K :
    Counted
    (kept_at R s 0 (mid_of 0 (s * R) t))
    (mid_of 0 (s * R) t)
    kept
    0
    (s * R)
    (kept_at R s 0 (mid_of 0 (s * R) t))
    (s * R)
    c)
    (B :
    Back
    R
    ((e - s) * R)
    (k * R)
    ((n - e + 1) * R)
    (mid_of (s * R) (table_size R cap - s * R) (put_mid 0 (s * R) t kept))
    carried
    d)
  where
    half : List ℕ
    half = put_mid 0 (s * R) t kept

    whole : List ℕ
    whole = put_mid (s * R) (table_size R cap - s * R) half carried

    in-front : s * R ≤ table_size R cap
    in-front = front_room R cap s (omega arith)

    kept-long : length kept ≡ s * R
    kept-long = let i = in-front in let w = lent.whole in K.filled.long ∙ mid_long 0 (s * R) t (omega arith)

    half-long : length half ≡ length t
    unfolding half
    half-long = let i = in-front in let w = lent.whole in put_long 0 (s * R) t kept (omega arith) kept-long

    back_fits : s * R + (table_size R cap - s * R) ≤ length half
    back_fits = let i = in-front in let w = lent.whole in let h = half-long in omega arith

    carried-long : length carried ≡ table_size R cap - s * R
    unfolding half
    carried-long = B.long ∙ mid_long (s * R) (table_size R cap - s * R) half back_fits

    whole_long : length whole ≡ length t
    unfolding whole
    whole_long = put_long (s * R) (table_size R cap - s * R) half carried back_fits carried-long ∙ half-long

    -- The words of the front, of the back, and after the table.
    front_at : (j : ℕ) → j < s * R → at whole j ≡ kept_at R s 0 (mid_of 0 (s * R) t) j
    unfolding half whole
    front_at j h =
        let w = lent.whole in
        let i = in-front in
        put_before (s * R) (table_size R cap - s * R) half carried back_fits carried-long j h
        ∙ put_inside 0 (s * R) t kept (omega arith) kept-long j (omega arith) (omega arith)
        ∙ ap (at kept) (let z : j - 0 ≡ j = omega arith in z)
        ∙ K.filled.inside j (omega arith) h

    back_at : (i : ℕ) → i < table_size R cap - s * R → at whole (s * R + i) ≡ at carried i
    unfolding half whole
    back_at i h =
        put_inside (s * R) (table_size R cap - s * R) half carried back_fits carried-long (s * R + i) (omega arith) (omega arith)
        ∙ ap (at carried) (let z : s * R + i - s * R ≡ i = omega arith in z)

    old-at : (i : ℕ) → i < table_size R cap - s * R → at (mid_of (s * R) (table_size R cap - s * R) half) i ≡ at t (s * R + i)
    unfolding half
    old-at i h =
        let w = lent.whole in
        let o = in-front in
        mid_at (s * R) (table_size R cap - s * R) half i h ∙ put_past 0 (s * R) t kept (omega arith) kept-long (s * R + i) (omega arith)

    after-at : (j : ℕ) → table_size R cap ≤ j → at whole j ≡ at t j
    unfolding half whole
    after-at j h =
        let w = lent.whole in
        let o = in-front in
        put_past (s * R) (table_size R cap - s * R) half carried back_fits carried-long j (omega arith)
        ∙ put_past 0 (s * R) t kept (omega arith) kept-long j (omega arith)

    module _ (rule : ℕ) (below : rule < R) where
      front-pair : (q : ℕ) → q < s → at whole (slot_of R rule q) ≡ word_after R n s e k t rule q
      unfolding word_after
      front-pair q h =
          let m = slots.before_row R rule q s below h in
          let place : s - (0 + slot_of R rule q / R) ≡ s - q =
          ap (λ (x : ℕ). s - x) (let z = slots.position_of R rule q below in let o : 0 + slot_of R rule q / R ≡ q = omega arith in o) in
          front_at (slot_of R rule q) (omega arith)
          ∙ ap₂ kept_word place
          (mid_at 0 (s * R) t (slot_of R rule q) (omega arith)
          ∙ ap (at t) (let z : 0 + slot_of R rule q ≡ slot_of R rule q = omega arith in z))
          ∙ kept_is n s e k q (table_word R t rule q) (table_word R t rule (came_from s e k q)) h

      came-pair :
          (i : ℕ)
          → s + i ≤ cap
          → came_word ((e - s) * R) (k * R) ((n - e + 1) * R) (mid_of (s * R) (table_size R cap - s * R) half) (slot_of R rule i)
          ≡ cond (comes n s e k (s + i) (table_word R t rule (came_from s e k (s + i)))) (table_word R t rule (came_from s e k (s + i))) 0
      came-pair i h =
          came_is
          (leb (k * R) (slot_of R rule i))
          (ltb (slot_of R rule i) (k * R + (n - e + 1) * R))
          (leb (s + k) (s + i))
          (leb (s + i) (new_length n s e k))
          (table_word R t rule (came_from s e k (s + i)))
          (at (mid_of (s * R) (table_size R cap - s * R) half) ((e - s) * R + (slot_of R rule i - k * R)))
          (from_new R s k rule below i)
          (to_end R s k rule below i (n - e) (new_length n s e k) (new_is n s e k fits.ordered fits.within))
          (λ x y. word (leb-true (s + k) (s + i) x) (leb-true (s + i) (new_length n s e k) y))
        where
          word :
              s + k ≤ s + i
              → s + i ≤ new_length n s e k
              → at (mid_of (s * R) (table_size R cap - s * R) half) ((e - s) * R + (slot_of R rule i - k * R))
              ≡ table_word R t rule (came_from s e k (s + i))
          word x y =
              let slot = came_from_lem R s k rule below i e (omega arith) in
              let back = was_inside n s e k i cap x y fits.ordered fits.within fits.lent in
              let in_table = slots.slot_in R cap rule (came_from s e k (s + i)) below (omega arith) in
              old-at
              ((e - s) * R + (slot_of R rule i - k * R))
              (below_rest (s * R) ((e - s) * R + (slot_of R rule i - k * R)) (slot_of R rule (came_from s e k (s + i))) (table_size R cap)
              slot in_table)
              ∙ ap (at t) slot

      -- The words that are carried past the first row, and those of the first.
      past_row :
          (i : ℕ)
          → 0 < i
          → slot_of R rule i < table_size R cap - s * R
          → at carried (slot_of R rule i)
          ≡ came_word ((e - s) * R) (k * R) ((n - e + 1) * R) (mid_of (s * R) (table_size R cap - s * R) half) (slot_of R rule i)
      unfolding half
      past_row i p h =
          let m = slots.row_room R 0 i p in
          let o = slots.in_row R rule i in
          let l = mid_long (s * R) (table_size R cap - s * R) half back_fits in
          B.rest (slot_of R rule i) (omega arith) (omega arith)

      in_row :
          (i : ℕ)
          → i ≡ 0
          → at carried (slot_of R rule i)
          ≡ cond
          (is_held (kept_word 0 (at (mid_of (s * R) (table_size R cap - s * R) half) (slot_of R rule i))))
          (kept_word 0 (at (mid_of (s * R) (table_size R cap - s * R) half) (slot_of R rule i)))
          (came_word ((e - s) * R) (k * R) ((n - e + 1) * R) (mid_of (s * R) (table_size R cap - s * R) half) (slot_of R rule i))
      unfolding half
      in_row i p = let z = slots.before_row R rule i 1 below (omega arith) in B.first (slot_of R rule i) (omega arith)

      -- A pair at s or behind it.
      back-pair : (i : ℕ) → s + i ≤ cap → at whole (slot_of R rule (s + i)) ≡ word_after R n s e k t rule (s + i)
      unfolding word_after
      back-pair i h =
          let slot = slots.rows_on R rule s i in
          let m = slots.slot_in R cap rule (s + i) below h in
          let inside : slot_of R rule i < table_size R cap - s * R = omega arith in
          let w : ℕ = table_word R t rule (s + i) in
          let u : ℕ = table_word R t rule (came_from s e k (s + i)) in
          let came : ℕ = cond (comes n s e k (s + i) u) u 0 in
          let old : at (mid_of (s * R) (table_size R cap - s * R) half) (slot_of R rule i) ≡ w =
          old-at (slot_of R rule i) inside ∙ ap (at t) (sym slot) in
          ap (at whole) slot
          ∙ back_at (slot_of R rule i) inside
          ∙ ⊎_elim
          (λ (p : 0 < i). past_row i p inside ∙ came-pair i h ∙ comes_only s (s + i) w came (omega arith))
          (λ (p : i ≤ 0).
          let here : s ≡ s + i = omega arith in
          in_row i (omega arith)
          ∙ ap₂ (λ (x y : ℕ). cond (is_held (kept_word 0 x)) (kept_word 0 x) y) old (came-pair i h)
          ∙ stays_is s w came
          ∙ ap (λ (x : ℕ). cond (stays s x w) w came) here)
          (cut 0 i)

      -- Every pair.
      pair_is : (q : ℕ) → q ≤ cap → at whole (slot_of R rule q) ≡ word_after R n s e k t rule q
      pair_is q h = ⊎_elim
          (λ (p : q < s). front-pair q p)
          (λ (p : s ≤ q).
          let o : s + (q - s) ≡ q = omega arith in
          subst (λ (x : ℕ). at whole (slot_of R rule x) ≡ word_after R n s e k t rule x) o (back-pair (q - s) (omega arith)))
          (cut q s)

    word_is : (j : ℕ) → j < table_size R cap → at whole j ≡ word_after R n s e k t (j % R) (j / R)
    word_is j h =
        let some = lent.some_rules in
        ap (at whole) (sym (slots.slot_is R j))
        ∙ pair_is (j % R) (mod-lt j some) (j / R) (let l = slots.row_below R j (cap + 1) some (omega arith) in omega arith)

    pub table_is : put_mid (s * R) (table_size R cap - s * R) (put_mid 0 (s * R) t kept) carried ≡ table_after R cap n s e k t
    unfolding half whole words_after
    table_is =
        let f : ℕ → ℕ = λ j. word_after R n s e k t (j % R) (j / R) in
        let size : ℕ = table_size R cap in
        let long = tabulate_long f size in
        let l1 = length-append (tabulate f size) (drop size t) in
        let l2 = length-drop size t in
        let l3 = whole_long in
        let w = lent.whole in
        ext_get_or
        0
        whole
        (tabulate f size ++ drop size t)
        (omega arith)
        (λ j h. ⊎_elim
        (λ (p : j < size). word_is j p ∙ sym (joined_first (tabulate f size) (drop size t) size j long p ∙ tabulate-at f size j p))
        (λ (p : size ≤ j).
        let o : size + (j - size) ≡ j = omega arith in
        after-at j p ∙ sym (joined_second (tabulate f size) (drop size t) size j long p ∙ get_or-drop size t (j - size) 0 ∙ ap (at t) o))
        (cut j size))

    pub standing_is : c + d ≡ held_in (words_after R cap n s e k t)
    unfolding half words_after
    standing_is =
        let f : ℕ → ℕ = λ j. word_after R n s e k t (j % R) (j / R) in
        let size : ℕ = table_size R cap in
        let i = in-front in
        let all : s * R + (size - s * R) ≡ size = omega arith in
        let a = held_list (tabulate f size) in
        let b = ap (held_to (at (tabulate f size))) (tabulate_long f size) in
        let g = held_same (at whole) (at (tabulate f size)) size (λ j h. word_is j h ∙ sym (tabulate-at f size j h)) in
        let o = ap (held_to (at whole)) all in
        let p = held_add (at whole) (s * R) (size - s * R) in
        let x = held_same (at whole) (kept_at R s 0 (mid_of 0 (s * R) t)) (s * R) front_at in
        let y = held_same (λ j. at whole (s * R + j)) (at carried) (size - s * R) back_at in
        let z = ap (held_to (at carried)) (mid_long (s * R) (size - s * R) half back_fits) in
        let k1 = K.counted in
        let k2 = B.counted in
        omega arith

-- The slots of an edit lie in the table: those before, those after, and a row at s.
pub record SlotsFit (R cap n s e k : ℕ) : Type 0 where
  pub old_slots : s * R + (e - s) * R + (n - e + 1) * R ≤ table_size R cap
  pub new_slots : s * R + k * R + (n - e + 1) * R ≤ table_size R cap
  pub row : s * R + R ≤ table_size R cap

pub slots_fit : {cap n s e k : ℕ} (R : ℕ) → EditFits cap n s e k → SlotsFit R cap n s e k
slots_fit {cap} {n} {s} {e} {k} R fits =
    record {
      old_slots = slots.room R s (e - s) (n - e + 1) cap (omega arith);
      new_slots = slots.room R s k (n - e + 1) cap (omega arith);
      row = (let m = slots.row_room R s (cap + 1) (omega arith) in omega arith);
    }

-- The front put back leaves the length.
pub front_long :
    (from : ℕ) (t kept : List ℕ) → from ≤ length t → length kept ≡ length (mid_of 0 from t) → length (put_mid 0 from t kept) ≡ length t
front_long from t kept h l =
    let a = l ∙ mid_long 0 from t (omega arith) in put_long 0 from t kept (omega arith) a

-- The back as it is lent has room for slots that are not more than its words.
pub back_room :
    {R gone come tail : ℕ} (from m : ℕ) (xs : List ℕ)
    → from + m ≤ length xs
    → R ≤ 64
    → R ≤ m
    → gone + tail ≤ m
    → come + tail ≤ m
    → BackFits R gone come tail (length (mid_of from m xs))
back_room from m xs fits most row old new =
    let e = mid_long from m xs fits in
    record { most_rules = most; row = omega arith; old_fits = omega arith; new_fits = omega arith }

-- The counts fit, since there are not more words.
pub counts_fit :
    {f held : ℕ → ℕ} {old new words : List ℕ} {lo hi count c R gone come tail d : ℕ} (from m : ℕ) (xs : List ℕ)
    → Counted f old new lo hi held count c
    → Back R gone come tail (mid_of from m xs) words d
    → from + m ≤ length xs
    → c + d ≤ count + m
counts_fit {held = held} {count = count} from m xs K B fits =
    let e = K.counted in
    let h = held_most held count in
    let l = count_fits B in
    let w = mid_long from m xs fits in
    omega arith
