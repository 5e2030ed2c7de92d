-- A table that has grown: each pair's word is as it was, or was not held and is the word of the pair's evaluation over the first
-- table; and with a pair that is newly held, the pairs whose body is evaluated in its evaluation are held. Assumes nothing.
use Prim.Native.Nat.{ℕ, ◌≤◌, ◌<◌}
use mathlib.Core.Path.{◌≡◌, refl, sym, ap, ◌∙◌, subst}
use mathlib.Core.Bool.{Bool, true, false, true≢false}
use mathlib.Core.List.{List}
use lib.ListN.{length, get_or, set, length-set}
use lib.Seq.{get_or-set_same, get_or-set_other, set_out}
use lib.Dec.{eqb, ltb}
use borrow.Author.Tests.{eqb-true, eqb-false, ltb-true, ltb-false}
use Rattle.grammar.specs.declared.Evaluation.{Evaluation}
use Rattle.grammar.specs.Image.{rules}
use Rattle.grammar.specs.Evaluates.{a_pair}
use Rattle.evaluation.specs.Calls.{bodies_of}
use Rattle.evaluation.proofs.BodiesOnce.{bodies_once}
use Rattle.records.specs.Words.{is_held, word_of}
use Rattle.records.specs.Slots.{slot_of}
use Rattle.records.proofs.Slots.{one_slot}
use Rattle.packrat.specs.Over.{word_at, over, Over}
use Rattle.packrat.specs.Stores.{Room}
use Rattle.packrat.proofs.Gain.{AllHeld}

pub data Slot (img text before after : List ℕ) (r p : ℕ) : Type 0 where
  kept : word_at img after r p ≡ word_at img before r p → Slot img text before after r p
  stored :
      (x : Evaluation)
      → is_held (word_at img before r p) ≡ false
      → Over img text before (a_pair r) p x
      → x.nesting ≤ 4096
      → word_at img after r p ≡ word_of x
      → Slot img text before after r p

-- Whatever a newly held pair's evaluation evaluates is held.
abbrev Inside : (img text before after : List ℕ) (r p : ℕ) → Type 0
Inside img text before after r p =
    is_held (word_at img before r p) ≡ false
    → is_held (word_at img after r p) ≡ true
    → (x : Evaluation) (d : Over img text before (a_pair r) p x)
    → AllHeld img after (bodies_of d)

pub record Grown (img text before after : List ℕ) : Type 0 where
  pub as_long : length after ≡ length before
  pub slots : (r p : ℕ) → r < rules img → p ≤ length text → Slot img text before after r p
  pub inside : Room img text before → (r p : ℕ) → r < rules img → p ≤ length text → Inside img text before after r p

pub grown_none : (img text t : List ℕ) → Grown img text t t
grown_none img text t =
    record {
      as_long = refl;
      slots = λ r p l h. kept refl;
      inside = λ m r p l h e f x d. absurd (true≢false (sym f ∙ e));
    }

-- A store of a held word keeps what is held.
held_set : (t : List ℕ) (i j w : ℕ) → is_held w ≡ true → is_held (get_or t j 0) ≡ true → is_held (get_or (set t i w) j 0) ≡ true
held_set t i j w h k = go (eqb j i) refl (ltb i (length t)) refl
  where
    go : (b : Bool) → eqb j i ≡ b → (c : Bool) → ltb i (length t) ≡ c → is_held (get_or (set t i w) j 0) ≡ true
    go false eb c ec = ap is_held (get_or-set_other t i j w 0 (eqb-false j i eb)) ∙ k
    go true eb true ec =
        ap (λ (n : ℕ). is_held (get_or (set t i w) n 0)) (eqb-true j i eb)
        ∙ ap is_held (get_or-set_same t i w 0 (ltb-true i (length t) ec))
        ∙ h
    go true eb false ec = ap (λ (s : List ℕ). is_held (get_or s j 0)) (set_out t i w (ltb-false i (length t) ec)) ∙ k

module _ {img text before after : List ℕ} (g : Grown img text before after) {r p : ℕ} {x : Evaluation}
    (l : r < rules img) (h : p ≤ length text) (e : is_held (word_at img before r p) ≡ false)
    (u : Over img text before (a_pair r) p x) (k : x.nesting ≤ 4096) (f : is_held (word_of x) ≡ true)
    (a : Room img text before → AllHeld img (set after (slot_of (rules img) r p) (word_of x)) (bodies_of u))
  where
    abbrev slot : ℕ
    slot = slot_of (rules img) r p

    abbrev later_table : List ℕ
    later_table = set after slot (word_of x)

    slots-after :
        (s q : ℕ) → s < rules img → q ≤ length text
        → (b : Bool) → eqb (slot_of (rules img) s q) slot ≡ b
        → (c : Bool) → ltb slot (length after) ≡ c
        → Slot img text before later_table s q
    slots-after s q m j b eb false ec =
        subst (λ (t : List ℕ). Slot img text before t s q) (sym (set_out after slot (word_of x) (ltb-false slot (length after) ec))) (g.slots s q m j)
    slots-after s q m j true eb true ec =
        let same = eqb-true (slot_of (rules img) s q) slot eb in
        let d = one_slot (rules img) q p s r m l same in
        subst (λ (i : ℕ). Slot img text before later_table i q) (sym d.1)
        (subst (λ (i : ℕ). Slot img text before later_table r i) (sym d.0)
        (stored x e u k (get_or-set_same after slot (word_of x) 0 (ltb-true slot (length after) ec))))
    slots-after s q m j false eb true ec = again (g.slots s q m j)
      where
        other : word_at img later_table s q ≡ word_at img after s q
        other = get_or-set_other after slot (slot_of (rules img) s q) (word_of x) 0 (eqb-false (slot_of (rules img) s q) slot eb)

        again : Slot img text before after s q → Slot img text before later_table s q
        again (kept w) = kept (other ∙ w)
        again (stored y f v n w) = stored y f v n (other ∙ w)

    inside-after :
        Room img text before → (s q : ℕ) → s < rules img → q ≤ length text
        → (b : Bool) → eqb (slot_of (rules img) s q) slot ≡ b
        → Inside img text before later_table s q
    inside-after n s q m j true eb =
        let d = one_slot (rules img) q p s r m l (eqb-true (slot_of (rules img) s q) slot eb) in
        subst (λ (i : ℕ). Inside img text before later_table i q) (sym d.1)
        (subst (λ (i : ℕ). Inside img text before later_table r i) (sym d.0)
        (λ was is y v.
        subst (AllHeld img later_table) (bodies_once img text (over img text before) u v) (a n)))
    inside-after n s q m j false eb = λ was is y v z i.
        let other = get_or-set_other after slot (slot_of (rules img) s q) (word_of x) 0 (eqb-false (slot_of (rules img) s q) slot eb) in
        held_set after slot (slot_of (rules img) z.rule z.position) (word_of x) f
        (g.inside n s q m j was (sym (ap is_held other) ∙ is) y v z i)

    pub grown_store : Grown img text before later_table
    grown_store =
        record {
          as_long = length-set after slot (word_of x) ∙ g.as_long;
          slots = λ s q m j. slots-after s q m j (eqb (slot_of (rules img) s q) slot) refl (ltb slot (length after)) refl;
          inside = λ n s q m j. inside-after n s q m j (eqb (slot_of (rules img) s q) slot) refl;
        }
