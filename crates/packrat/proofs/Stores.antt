-- A run over any table that has room: it answers the evaluation in which each held pair takes what its word says, the table gains the
-- words of the pairs whose body is evaluated in it and no other, and the count goes up by the number of these pairs. Where the
-- allowance is below the evaluation's nesting it refuses with 14. Assumes nothing.
--     determined   the run of a pair whose nesting is allowed
--     too_deep     the run of a pair whose nesting is not
use Rattle.grammar.specs.declared.refusal.Refusal.TheVariants.{Nesting}
use Prim.Native.Nat.{ℕ, ◌+◌, ◌%◌, ◌≤◌, ◌<◌, ◌^◌}
use native.Mathlib.Omega.{arith}
use mathlib.Core.Path.{◌≡◌, refl, sym, ap, ◌∙◌, subst}
use mathlib.Core.Bool.{Bool, true, false, true≢false}
use mathlib.Core.List.{List}
use mathlib.Core.Logic.{⊎_elim}
use lib.ListN.{length}
use Rattle.grammar.specs.declared.Evaluation.{Evaluation}
use Rattle.grammar.specs.Image.{rules}
use Rattle.grammar.specs.Questions.{Question4, one_if}
use Rattle.grammar.specs.Evaluates.{Subject, a_pair}
use Rattle.evaluation.specs.Calls.{Pair, In, is_in, bodies_of}
use Rattle.evaluation.proofs.Pairs.{is_in_lem, not_in, one_pair}
use Rattle.evaluation.proofs.Counts.{count_plus}
use Rattle.evaluation.proofs.Bodies.{shallower}
use Rattle.evaluation.proofs.Range.{PairOf, bodies_in_range}
use Rattle.records.specs.Words.{is_held, possible}
use Rattle.records.specs.Slots.{slot_of}
use Rattle.records.proofs.Slots.{one_slot}
use Rattle.packrat.specs.Model.{rule_m, node_m}
use Rattle.packrat.specs.Over.{word_at, over, Over}
use Rattle.packrat.specs.Stores.{Room, IsStored, Stores, evaluations, Determined, RefusedWith}
use Rattle.packrat.proofs.Gain.{Gain}
use Rattle.packrat.proofs.Grown.{Slot, kept, stored, Grown, grown_none}
use Rattle.packrat.proofs.OverTables.{Result, fine, deep, pair_over, body_unheld, records_within}

-- What is kept of a pair that is not among those stored.
pub kept_pair :
    {img text before after : List ℕ} {ps : List Pair}
    → Stores img text before ps after
    → ((x : Pair) → In x ps → x.rule < rules img)
    → (r q : ℕ) → r < rules img → is_in r q ps ≡ false
    → word_at img after r q ≡ word_at img before r q
kept_pair {img} {ps = ps} s range r q l e =
    s.kept (slot_of (rules img) r q)
    (λ r' q' i k.
    let d = one_slot (rules img) q q' r r' l (range (record { rule = r'; position = q' }) i) k in
    not_in r q ps e (subst (λ (x : Pair). In x ps) (one_pair (sym d.1) (sym d.0)) i))

module _ (img text table : List ℕ) (words : Question4 img) (short : length text ≤ 65535) where
  -- A pair whose body is evaluated is not held in the table,
  pub bodies_unheld :
      {s : Subject} {p : ℕ} {z : Evaluation} {x : Pair} (d : Over img text table s p z)
      → In x (bodies_of d) → is_held (word_at img table x.rule x.position) ≡ false
  unfolding over
  bodies_unheld {x = x} d i =
      let w = word_at img table x.rule x.position in
      body_unheld (is_held w) (possible w x.position (length text)) w (shallower d i).by

  -- and is a pair of the image and the text.
  pub over_in_range :
      {r p : ℕ} {z : Evaluation} (d : Over img text table (a_pair r) p z) → r < rules img → p ≤ length text
      → (x : Pair) → In x (bodies_of d) → PairOf img text x
  over_in_range d l h x i = bodies_in_range img text (over img text table) words (records_within img text table words short) d l h x i

  module _ (room : Room img text table) {r p : ℕ} {z : Evaluation} (d : Over img text table (a_pair r) p z)
      (l : r < rules img) (h : p ≤ length text)
    where
      module _ {u : List ℕ} {c e : ℕ} (g : Grown img text table u) (a : Gain img text table u c e (bodies_of d)) where
        gained-word : (s q : ℕ) → In (record { rule = s; position = q }) (bodies_of d) → IsStored img text table s q (word_at img u s q)
        gained-word s q i =
            let k = over_in_range d l h (record { rule = s; position = q }) i in
            go (g.slots s q k.rule_in k.position_in)
          where
            go : Slot img text table u s q → IsStored img text table s q (word_at img u s q)
            go (kept w) =
                absurd (true≢false (sym (a.all room (record { rule = s; position = q }) i) ∙ ap is_held w ∙ bodies_unheld d i))
            go (stored x f v n w) = record { value = x; evaluated = v; word_is = w; nesting_allowed = n }

        stores : Stores img text table (bodies_of d) u
        stores =
            record {
              as_long = a.as_long;
              gained = gained-word;
              kept = λ j other.
                  ⊎_elim (λ k. k)
                  (λ s. absurd (other s.pair.rule s.pair.position s.among s.slot_is))
                  (a.only j);
            }

        -- The pairs newly held are those whose body is evaluated.
        newly :
            (s q : ℕ) → s < rules img → q < length text + 1
            → one_if (is_held (word_at img u s q)) ≡ one_if (is_held (word_at img table s q)) + one_if (is_in s q (bodies_of d))
        newly s q m j = go (is_in s q (bodies_of d)) refl
          where
            go :
                (b : Bool) → is_in s q (bodies_of d) ≡ b
                → one_if (is_held (word_at img u s q)) ≡ one_if (is_held (word_at img table s q)) + one_if b
            go true k =
                let i = is_in_lem s q (bodies_of d) k in
                let now = ap one_if (a.all room (record { rule = s; position = q }) i) in
                let was = ap one_if (bodies_unheld d i) in
                omega arith
            go false k =
                let same =
                ap (λ (w : ℕ). one_if (is_held w)) (kept_pair stores (λ x i. (over_in_range d l h x i).rule_in) s q m k) in
                omega arith

        count-is : a.count ≡ evaluations img text (bodies_of d)
        count-is =
            let x = a.held room in
            let y =
            count_plus (rules img) (length text + 1) (λ s q. is_held (word_at img u s q)) (λ s q. is_held (word_at img table s q))
            (λ s q. is_in s q (bodies_of d)) newly in
            omega arith

      pub determined :
          (left : ℕ) → left ≤ 4096 → z.nesting ≤ left → (c : ℕ)
          → Determined img text table c z (bodies_of d) (rule_m img text (node_m img text left) left r p table c)
      determined left most k c = go (pair_over img text table words short r p d l h left most table (grown_none img text table) c)
        where
          go :
              Result img text table words short (rule_m img text (node_m img text left) left r p table c) z left table c (bodies_of d)
              → Determined img text table c z (bodies_of d) (rule_m img text (node_m img text left) left r p table c)
          go (deep u e n q) = absurd (omega arith)
          go (fine u e n g a q) =
              record {
                after = u;
                counted = e;
                is = q;
                stores = stores g a;
                counts = λ m. a.counted m ∙ ap (λ (j : ℕ). (c + j) % 2 ^ 64) (count-is g a);
              }

  pub too_deep :
      {r p : ℕ} {z : Evaluation} (d : Over img text table (a_pair r) p z) → r < rules img → p ≤ length text
      → (left : ℕ) → left ≤ 4096 → left < z.nesting → (c : ℕ)
      → RefusedWith Nesting (rule_m img text (node_m img text left) left r p table c)
  too_deep {r} {p} {z} d l h left most k c =
      go (pair_over img text table words short r p d l h left most table (grown_none img text table) c)
    where
      go :
          Result img text table words short (rule_m img text (node_m img text left) left r p table c) z left table c (bodies_of d)
          → RefusedWith Nesting (rule_m img text (node_m img text left) left r p table c)
      go (deep u e n q) = record { after = u; counted = e; is = q }
      go (fine u e n g a q) = absurd (omega arith)
