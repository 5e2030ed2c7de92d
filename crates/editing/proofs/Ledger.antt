-- Theorems `ledger_after` and `standing`: where the table has the words of a set of pairs and 0 elsewhere, after an edit it has the words
-- of the pairs that stand and 0 elsewhere, and the count of held words is the number of pairs that stand.
-- Assumes of the words: those of held pairs are held and have the examined length of the pair (`stored`), a pair that stays has the same
-- word after the edit (`stay-true`), and a pair behind the edit has the word that it had at its old position (`carry-true`).
use Prim.Native.Nat.{ℕ, zero, suc, ◌+◌, ◌-◌, ◌*◌, ◌/◌, ◌%◌, ◌≤◌, ◌<◌}
use native.Mathlib.Omega.{arith}
use native.Mathlib.Nat.{mul_comm}
use mathlib.Core.Path.{◌≡◌, refl, sym, ap, ap₂, ◌∙◌}
use mathlib.Core.Bool.{Bool, true, false, cond, ◌&&◌, ◌||◌}
use mathlib.Core.List.{List}
use lib.ListN.{drop}
use lib.Dec.{leb}
use borrow.Author.Tests.{leb-true}
use Rattle.buffers.specs.Filled.{at}
use Rattle.buffers.proofs.Parts.{joined_first}
use Rattle.grammar.specs.Questions.{one_if}
use Rattle.grammar.proofs.Bools.{both}
use Rattle.evaluation.specs.Counts.{sum_to, count_pairs}
use Rattle.records.specs.Words.{is_held, examined_of}
use Rattle.records.specs.Slots.{slot_of, table_size}
use Rattle.records.proofs.Slots.{slot_in, in_row, position_of, rule_of}
use Rattle.editing.specs.Text.{EditFits, new_length}
use Rattle.editing.specs.Table.{table_word, stays, comes, came_from, word_after, tabulate, words_after, table_after, held_in}
use Rattle.editing.specs.Pairs.{stands_after}
use Rattle.editing.specs.Held.{held_bit, held_to}
use Rattle.editing.proofs.Held.{cond_by, held_add, held_same, held_list}
use Rattle.editing.proofs.Tabulated.{tabulate_long, tabulate-at}
use Rattle.editing.proofs.Lengths.{was_inside}

-- Two cases that give one word.
either : (a b : Bool) (w u v : ℕ) → (a ≡ true → w ≡ v) → (b ≡ true → u ≡ v) → cond a w (cond b u 0) ≡ cond (a || b) v 0
either true b w u v f g = f refl
either false true w u v f g = g refl
either false false w u v f g = refl

-- The held bit of a word that one of two cases gives.
either_bit :
    (a b : Bool) (w u : ℕ) → (a ≡ true → is_held w ≡ true) → (b ≡ true → is_held u ≡ true)
    → held_bit (cond a w (cond b u 0)) ≡ one_if (a || b)
either_bit true b w u f g = cond_by 1 0 (f refl)
either_bit false true w u f g = cond_by 1 0 (g refl)
either_bit false false w u f g = refl

-- The word of a pair that is or is not held.
held_word : (h : Bool) (w : ℕ) → (h ≡ true → is_held w ≡ true) → is_held (cond h w 0) ≡ h
held_word true w f = f refl
held_word false w f = refl

stays_pair :
    (s q x : ℕ) (h : Bool) (w : ℕ) → (h ≡ true → is_held w ≡ true) → (h ≡ true → examined_of w ≡ x)
    → stays s q (cond h w 0) ≡ (leb q s && (h && leb (q + x) s))
stays_pair s q x true w f g = ap₂ (λ (b : Bool) (y : ℕ). leb q s && (b && leb (q + y) s)) (f refl) (g refl)
stays_pair s q x false w f g = refl

-- "held at q − k + (e − s)" is asked only behind the edit.
comes_pair : (a b c d : Bool) → (a ≡ true → b ≡ true → c ≡ d) → (a && (b && c)) ≡ (a && (b && d))
comes_pair true true c d f = f refl refl
comes_pair true false c d f = refl
comes_pair false b c d f = refl

module _
    (R cap n s e k : ℕ)
    (t : List ℕ)
    (some : 1 ≤ R)
    (fits : EditFits cap n s e k)
    (h : ℕ → ℕ → Bool)
    (examined W W' : ℕ → ℕ → ℕ)
    (before : (rule q : ℕ) → rule < R → q ≤ cap → table_word R t rule q ≡ cond (h rule q) (W rule q) 0)
    (stored : (rule q : ℕ) → rule < R → h rule q ≡ true → (is_held (W rule q) ≡ true) × (examined_of (W rule q) ≡ examined rule q))
    (stay-true : (rule q : ℕ) → rule < R → h rule q ≡ true → q + examined rule q ≤ s → W' rule q ≡ W rule q)
    (carry-true :
    (rule q : ℕ)
    → rule < R
    → s + k ≤ q
    → q ≤ new_length n s e k
    → h rule (came_from s e k q) ≡ true
    → W' rule q ≡ W rule (came_from s e k q))
  where
    abbrev pub stands : ℕ → ℕ → Bool
    stands rule q = stands_after (h rule) (examined rule) n s e k q

    came-inside : (q : ℕ) → s + k ≤ q → q ≤ new_length n s e k → came_from s e k q ≤ cap
    came-inside q a b =
        let i : s + (q - s) ≡ q = omega arith in
        let l = was_inside n s e k (q - s) cap (omega arith) (omega arith) fits.ordered fits.within fits.lent in
        let m = ap (came_from s e k) i in
        omega arith

    module _ (rule q : ℕ) (below : rule < R) (inside : q ≤ cap) where
      first-case : stays s q (table_word R t rule q) ≡ (leb q s && (h rule q && leb (q + examined rule q) s))
      first-case =
          ap (stays s q) (before rule q below inside)
          ∙ stays_pair s q (examined rule q) (h rule q) (W rule q) (λ y. (stored rule q below y).0) (λ y. (stored rule q below y).1)

      second-case :
          comes n s e k q (table_word R t rule (came_from s e k q))
          ≡ (leb (s + k) q && (leb q (new_length n s e k) && h rule (came_from s e k q)))
      second-case =
          comes_pair
          (leb (s + k) q)
          (leb q (new_length n s e k))
          (is_held (table_word R t rule (came_from s e k q)))
          (h rule (came_from s e k q))
          (λ a b.
          ap is_held (before rule (came_from s e k q) below (came-inside q (leb-true (s + k) q a) (leb-true q (new_length n s e k) b)))
          ∙ held_word (h rule (came_from s e k q)) (W rule (came_from s e k q)) (λ y. (stored rule (came_from s e k q) below y).0))

      -- The word of a pair after the edit.
      word_after_lem : word_after R n s e k t rule q ≡ cond (stands rule q) (W' rule q) 0
      unfolding word_after stands_after
      word_after_lem =
          ap₂
          (λ (a b : Bool). cond a (table_word R t rule q) (cond b (table_word R t rule (came_from s e k q)) 0))
          first-case
          second-case
          ∙ either
          (leb q s && (h rule q && leb (q + examined rule q) s))
          (leb (s + k) q && (leb q (new_length n s e k) && h rule (came_from s e k q)))
          (table_word R t rule q)
          (table_word R t rule (came_from s e k q))
          (W' rule q)
          (λ y.
          let z = both (h rule q) (leb (q + examined rule q) s) (both (leb q s) _ y).1 in
          let held = z.0 in
          let near = leb-true (q + examined rule q) s z.1 in
          before rule q below inside ∙ cond_by (W rule q) 0 held ∙ sym (stay-true rule q below held near))
          (λ y.
          let x = both (leb (s + k) q) _ y in
          let z = both (leb q (new_length n s e k)) (h rule (came_from s e k q)) x.1 in
          let a = leb-true (s + k) q x.0 in
          let b = leb-true q (new_length n s e k) z.0 in
          let held = z.1 in
          before rule (came_from s e k q) below (came-inside q a b)
          ∙ cond_by (W rule (came_from s e k q)) 0 held
          ∙ sym (carry-true rule q below a b held))

      -- Its held bit is whether it stands.
      bit-after : held_bit (word_after R n s e k t rule q) ≡ one_if (stands rule q)
      unfolding word_after stands_after
      bit-after =
          either_bit
          (stays s q (table_word R t rule q))
          (comes n s e k q (table_word R t rule (came_from s e k q)))
          (table_word R t rule q)
          (table_word R t rule (came_from s e k q))
          (λ y. (both (is_held (table_word R t rule q)) _ (both (leb q s) _ y).1).0)
          (λ y. (both (leb q (new_length n s e k)) _ (both (leb (s + k) q) _ y).1).1)
          ∙ ap₂ (λ (a b : Bool). one_if (a || b)) first-case second-case

    -- The table after the edit, pair by pair.
    pub ledger_after :
        (rule q : ℕ)
        → rule < R
        → q ≤ cap
        → table_word R (table_after R cap n s e k t) rule q ≡ cond (stands_after (h rule) (examined rule) n s e k q) (W' rule q) 0
    unfolding words_after
    ledger_after rule q below inside =
        let f : ℕ → ℕ = λ j. word_after R n s e k t (j % R) (j / R) in
        let slot = slot_in R cap rule q below inside in
        joined_first (tabulate f (table_size R cap)) (drop (table_size R cap) t) (table_size R cap) (slot_of R rule q)
        (tabulate_long f (table_size R cap)) slot
        ∙ tabulate-at f (table_size R cap) (slot_of R rule q) slot
        ∙ ap₂ (word_after R n s e k t) (rule_of R rule q below) (position_of R rule q below)
        ∙ word_after_lem rule q below inside

    row_count :
        (q : ℕ)
        → q ≤ cap
        → (m : ℕ)
        → m ≤ R
        → held_to (λ rule. word_after R n s e k t (slot_of R rule q % R) (slot_of R rule q / R)) m
        ≡ sum_to m (λ rule. one_if (stands rule q))
    unfolding sum_to
    row_count q l zero h = refl
    row_count q l (suc m) h =
        let a = row_count q l m (omega arith) in
        let below : m < R = omega arith in
        let b : held_bit (word_after R n s e k t (slot_of R m q % R) (slot_of R m q / R)) ≡ one_if (stands m q) =
        ap held_bit (ap₂ (word_after R n s e k t) (rule_of R m q below) (position_of R m q below)) ∙ bit-after m q below l in
        omega arith

    rows-count :
        (p : ℕ)
        → p ≤ cap + 1
        → held_to (λ j. word_after R n s e k t (j % R) (j / R)) (p * R) ≡ sum_to p (λ q. sum_to R (λ rule. one_if (stands rule q)))
    unfolding sum_to
    rows-count zero l = ap (held_to (λ j. word_after R n s e k t (j % R) (j / R))) (let z : 0 * R ≡ 0 = omega arith in z)
    rows-count (suc p) l =
        let f : ℕ → ℕ = λ j. word_after R n s e k t (j % R) (j / R) in
        let a = rows-count p (omega arith) in
        let b = held_add f (p * R) R in
        let c = held_same (λ j. f (p * R + j)) (λ rule. f (slot_of R rule p)) R (λ rule l. ap f (sym (in_row R rule p))) in
        let d = row_count p (omega arith) R (omega arith) in
        let z : suc p * R ≡ p * R + R = omega arith in
        let i = ap (held_to f) z in
        omega arith

    -- The number of pairs that stand.
    pub standing :
        held_in (words_after R cap n s e k t) ≡ count_pairs R (cap + 1) (λ rule q. stands_after (h rule) (examined rule) n s e k q)
    unfolding words_after
    standing =
        let f : ℕ → ℕ = λ j. word_after R n s e k t (j % R) (j / R) in
        let size : ℕ = table_size R cap in
        let a = held_list (tabulate f size) in
        let b = ap (held_to (at (tabulate f size))) (tabulate_long f size) in
        let d = held_same (at (tabulate f size)) f size (tabulate-at f size) in
        let i = ap (held_to f) (mul_comm R (cap + 1)) in
        a ∙ b ∙ d ∙ i ∙ rows-count (cap + 1) (omega arith)
