-- What a run adds to a table, where the bodies of certain pairs are evaluated: their words and no other; held words stay; and as many
-- pairs are newly held as it counted. Assumes nothing.
use Prim.Native.Nat.{ℕ, ◌+◌, ◌%◌, ◌≤◌, ◌<◌, ◌^◌}
use native.Mathlib.Omega.{arith}
use mathlib.Core.Path.{◌≡◌, refl, sym, ap, ◌∙◌, subst}
use mathlib.Core.Bool.{Bool, true, false, ◌&&◌, true≢false}
use mathlib.Core.List.{List, [], ◌∷◌, ◌++◌}
use mathlib.Core.Logic.{◌⊎◌, inl, inr, ⊎_elim}
use lib.ListN.{length, get_or, set, length-set}
use lib.Seq.{get_or-set_same, get_or-set_other}
use lib.Dec.{eqb}
use borrow.Author.Tests.{eqb-true, eqb-false}
use Rattle.grammar.specs.Image.{rules}
use Rattle.grammar.specs.Questions.{one_if}
use Rattle.evaluation.specs.Calls.{Pair, In, here, later}
use Rattle.evaluation.specs.Counts.{count_pairs}
use Rattle.evaluation.proofs.Pairs.{none_in, in_either, in_left, in_right, one_pair}
use Rattle.evaluation.proofs.Counts.{count_plus, count_one}
use Rattle.records.specs.Words.{is_held}
use Rattle.records.specs.Slots.{slot_of}
use Rattle.records.proofs.Slots.{slot_in, one_slot}
use Rattle.packrat.specs.Over.{word_at}
use Rattle.packrat.specs.Stores.{Room}

-- Every pair of the list is held.
abbrev pub AllHeld : (img table : List ℕ) → List Pair → Type 0
AllHeld img t ps = (x : Pair) → In x ps → is_held (word_at img t x.rule x.position) ≡ true

module _ (img text : List ℕ) where
  -- How many pairs of the text are held.
  abbrev pub held_in : List ℕ → ℕ
  held_in t = count_pairs (rules img) (length text + 1) (λ r q. is_held (word_at img t r q))

  -- The index is the slot of one of the pairs.
  pub record SlotAmong (ps : List Pair) (j : ℕ) : Type 0 where
    pub pair : Pair
    pub among : In pair ps
    pub rule_in : pair.rule < rules img
    pub slot_is : j ≡ slot_of (rules img) pair.rule pair.position

  pub record Gain (t u : List ℕ) (c d : ℕ) (ps : List Pair) : Type 0 where
    pub only : (j : ℕ) → (get_or u j 0 ≡ get_or t j 0) ⊎ SlotAmong ps j
    pub stays : (j : ℕ) → is_held (get_or t j 0) ≡ true → get_or u j 0 ≡ get_or t j 0
    pub all : Room img text t → AllHeld img u ps
    pub as_long : length u ≡ length t
    pub count : ℕ
    pub counted : c < 2 ^ 64 → d ≡ (c + count) % 2 ^ 64
    pub held : Room img text t → held_in u ≡ held_in t + count

  pub gain_none : (t : List ℕ) (c : ℕ) (ps : List Pair) → (Room img text t → AllHeld img t ps) → Gain t t c c ps
  gain_none t c ps a =
      record {
        only = λ j. inl refl;
        stays = λ j e. refl;
        all = a;
        as_long = refl;
        count = 0;
        counted = λ h. omega arith;
        held = λ m. omega arith;
      }

  among_more : {ps : List Pair} (qs : List Pair) {j : ℕ} → ((x : Pair) → In x ps → In x qs) → SlotAmong ps j → SlotAmong qs j
  among_more qs f s = record { pair = s.pair; among = f s.pair s.among; rule_in = s.rule_in; slot_is = s.slot_is }

  pub gain_then : {t u v : List ℕ} {c d e : ℕ} {ps qs : List Pair} → Gain t u c d ps → Gain u v d e qs → Gain t v c e (ps ++ qs)
  gain_then {ps = ps} {qs = qs} a b =
      record {
        only = λ j.
            ⊎_elim
            (λ x. ⊎_elim (λ y. inl (x ∙ y)) (λ s. inr (among_more (ps ++ qs) (λ y i. in_left qs i) s)) (a.only j))
            (λ s. inr (among_more (ps ++ qs) (λ y i. in_right ps i) s))
            (b.only j);
        stays = λ j h. let x = a.stays j h in b.stays j (ap is_held x ∙ h) ∙ x;
        all = λ m x i.
            ⊎_elim
            (λ k. let h = a.all m x k in ap is_held (b.stays (slot_of (rules img) x.rule x.position) h) ∙ h)
            (b.all (rw a.as_long m) x)
            (in_either ps qs i);
        as_long = b.as_long ∙ a.as_long;
        count = a.count + b.count;
        counted = λ h. let x = a.counted h in let y = b.counted (omega arith) in omega arith;
        held = λ m. let x = a.held m in let y = b.held (rw a.as_long m) in omega arith;
      }

  -- The same with a list of the same pairs.
  pub gain_among :
      {t u : List ℕ} {c d : ℕ} {ps : List Pair} (qs : List Pair)
      → ((x : Pair) → In x ps → In x qs)
      → ((x : Pair) → In x qs → In x ps)
      → Gain t u c d ps
      → Gain t u c d qs
  gain_among qs f g a =
      record {
        only = λ j. ⊎_elim (λ x. inl x) (λ s. inr (among_more qs f s)) (a.only j);
        stays = a.stays;
        all = λ m x i. a.all m x (g x i);
        as_long = a.as_long;
        count = a.count;
        counted = a.counted;
        held = a.held;
      }

  -- What it says of a pair.
  pub only_pair :
      {t u : List ℕ} {c d : ℕ} {ps : List Pair} → Gain t u c d ps → (r p : ℕ) → r < rules img
      → (word_at img u r p ≡ word_at img t r p) ⊎ In (record { rule = r; position = p }) ps
  only_pair {ps = ps} a r p l = ⊎_elim (λ x. inl x) (λ s. inr (found s)) (a.only (slot_of (rules img) r p))
    where
      found : SlotAmong ps (slot_of (rules img) r p) → In (record { rule = r; position = p }) ps
      found s =
          let d = one_slot (rules img) p s.pair.position r s.pair.rule l s.rule_in s.slot_is in
          subst (λ (x : Pair). In x ps) (one_pair (sym d.1) (sym d.0)) s.among

  -- A store of a held word into a slot that was not held.
  module _ (t : List ℕ) (c r p w : ℕ) (l : r < rules img) (h : p ≤ length text)
      (e : is_held (word_at img t r p) ≡ false) (f : is_held w ≡ true)
    where
      abbrev slot : ℕ
      slot = slot_of (rules img) r p

      abbrev after : List ℕ
      after = set t slot w

      stored_there : Room img text t → word_at img after r p ≡ w
      stored_there m = let i = slot_in (rules img) (length text) r p l h in get_or-set_same t slot w 0 (omega arith)

      -- The pair is newly held, and no other.
      held_more :
          Room img text t → (s q : ℕ) → s < rules img → q < length text + 1
          → one_if (is_held (word_at img after s q)) ≡ one_if (is_held (word_at img t s q)) + one_if (eqb r s && eqb p q)
      held_more m s q k j = go (eqb r s) refl (eqb p q) refl
        where
          other : (slot_of (rules img) s q ≡ slot → ⊥) → one_if (is_held (word_at img after s q)) ≡ one_if (is_held (word_at img t s q)) + 0
          other ne =
              let x = ap (λ (v : ℕ). one_if (is_held v)) (get_or-set_other t slot (slot_of (rules img) s q) w 0 ne) in
              omega arith

          go :
              (a : Bool) → eqb r s ≡ a → (b : Bool) → eqb p q ≡ b
              → one_if (is_held (word_at img after s q)) ≡ one_if (is_held (word_at img t s q)) + one_if (a && b)
          go true ea true eb =
              let x = eqb-true r s ea in
              let y = eqb-true p q eb in
              let now : is_held (word_at img after s q) ≡ true =
              subst (λ (i : ℕ). is_held (word_at img after i q) ≡ true) x
              (subst (λ (i : ℕ). is_held (word_at img after r i) ≡ true) y (ap is_held (stored_there m) ∙ f)) in
              let was : is_held (word_at img t s q) ≡ false =
              subst (λ (i : ℕ). is_held (word_at img t i q) ≡ false) x (subst (λ (i : ℕ). is_held (word_at img t r i) ≡ false) y e) in
              let n = ap one_if now in
              let o = ap one_if was in
              omega arith
          go true ea false eb = other (λ z. eqb-false p q eb (sym (one_slot (rules img) q p s r k l z).0))
          go false ea b eb = other (λ z. eqb-false r s ea (sym (one_slot (rules img) q p s r k l z).1))

      pub gain_store : Gain t after c ((c + 1) % 2 ^ 64) (record { rule = r; position = p } ∷ [])
      gain_store =
          record {
            only = λ j. at j (eqb j slot) refl;
            stays = λ j k. get_or-set_other t slot j w 0 (λ z. true≢false (sym k ∙ ap (λ (i : ℕ). is_held (get_or t i 0)) z ∙ e));
            all = λ m x i. first m i;
            as_long = length-set t slot w;
            count = 1;
            counted = λ k. refl;
            held = λ m.
                let a =
                count_plus (rules img) (length text + 1) (λ s q. is_held (word_at img after s q))
                (λ s q. is_held (word_at img t s q)) (λ s q. eqb r s && eqb p q) (held_more m) in
                let b = count_one (rules img) (length text + 1) r p l (omega arith) in
                omega arith;
          }
        where
          at : (j : ℕ) (b : Bool) → eqb j slot ≡ b → (get_or after j 0 ≡ get_or t j 0) ⊎ SlotAmong (record { rule = r; position = p } ∷ []) j
          at j true eb =
              inr (record { pair = record { rule = r; position = p }; among = here; rule_in = l; slot_is = eqb-true j slot eb })
          at j false eb = inl (get_or-set_other t slot j w 0 (eqb-false j slot eb))

          first :
              {x : Pair} → Room img text t → In x (record { rule = r; position = p } ∷ [])
              → is_held (word_at img after x.rule x.position) ≡ true
          first m here = ap is_held (stored_there m) ∙ f
          first m (later i) = absurd (none_in i)
