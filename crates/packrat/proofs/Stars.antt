-- The loop of a star: the rounds so far, joined with the rounds that follow, are all the rounds. Assumes nothing.
use Rattle.std.specs.Prelude.{Ok, Err}
use Rattle.grammar.specs.declared.refusal.Refusal.{Refusal}
use Rattle.grammar.specs.declared.refusal.Refusal.TheVariants.{Records}
use Prim.Native.Nat.{ℕ, zero, suc, ◌+◌, ◌≤◌, ◌<◌, max}
use native.Mathlib.Omega.{arith}
use native.Mathlib.Nat.{add-zero}
use mathlib.Core.Path.{◌≡◌, refl, sym, ap, ◌∙◌}
use mathlib.Core.Bool.{Bool, true, false, true≢false}
use mathlib.Core.List.{List}
use lib.ListN.{length}
use lib.Dec.{eqb}
use borrow.Author.Tests.{eq-eqb, ne_eqb}
use Rattle.grammar.specs.declared.Evaluation.{Evaluation}
use Rattle.grammar.specs.declared.node.Node.TheVariants.{Star}
use Rattle.grammar.specs.Evaluates.{taken_over, last_round, round_then}
use Rattle.records.specs.Words.{word_of, matched_of, length_of, examined_of, nesting_of}
use Rattle.packrat.specs.Model.{answered, refused, Out, out, Evaluator, bind, made, after_round, rounds_m, kind_m}
use Rattle.packrat.specs.Gives.{Gives}
use Rattle.packrat.proofs.Gives.{found, was_refused, says_matched, says_length, says_examined, says_nesting, gives_value}

-- Rounds that consumed, examined and nested so far, with the rounds y after them.
abbrev pub joined : (consumed examined deepest : ℕ) → Evaluation → Evaluation
joined c x d y =
    record { matched = true; length = c + y.length; examined = max x (c + y.examined); nesting = max d y.nesting }

-- The rounds of a star always match.
abbrev Matched : Out → Type 0
Matched (out (answered y) t c) = y.matched ≡ true
Matched (out (refused k) t c) = Unit {0}

made_matches : (x : Evaluation) (o : Out) → Matched (made (round_then x) o)
made_matches x (out (answered y) t c) = refl
made_matches x (out (refused k) t c) = tt

after_matches : (m s : Bool) (more : ℕ → List ℕ → ℕ → Out) (at : ℕ) (x : Evaluation) (t : List ℕ) (c : ℕ) → Matched (after_round m s more at x t c)
unfolding after_round
after_matches false s more at x t c = refl
after_matches true true more at x t c = tt
after_matches true false more at x t c = made_matches x (more (at + x.length) t c)

bind_matches : (o : Out) (f : Evaluation → List ℕ → ℕ → Out) → ((x : Evaluation) (t : List ℕ) (c : ℕ) → Matched (f x t c)) → Matched (bind o f)
bind_matches (out (answered y) t c) f h = h y t c
bind_matches (out (refused k) t c) f h = tt

rounds_match : (fuel : ℕ) (nodes : Evaluator) (a at : ℕ) (t : List ℕ) (c : ℕ) → Matched (rounds_m fuel nodes a at t c)
unfolding rounds_m
rounds_match zero nodes a at t c = tt
rounds_match (suc f) nodes a at t c =
    bind_matches (nodes a at t c) _ (λ x u d. after_matches x.matched (eqb x.length 0) (rounds_m f nodes a) at x u d)

joined_none : (o : Out) → Matched o → made (joined 0 0 0) o ≡ o
joined_none (out (answered y) t c) m =
    ap (λ (z : Evaluation). out (answered z) t c)
    (λ i. record { matched = sym m i; length = len i; examined = seen i; nesting = nest i })
  where
    len : 0 + y.length ≡ y.length
    len = omega arith

    seen : max 0 (0 + y.examined) ≡ y.examined
    seen = omega arith

    nest : max 0 y.nesting ≡ y.nesting
    nest = omega arith
joined_none (out (refused k) t c) m = refl

-- A round more on this side is a round less on that.
joined_more :
    (c x d : ℕ) (v : Evaluation) (o : Out)
    → made (joined c x d) (made (round_then v) o) ≡ made (joined (c + v.length) (max x (c + v.examined)) (max d v.nesting)) o
joined_more c x d v (out (answered y) t k) =
    ap (λ (z : Evaluation). out (answered z) t k)
    (λ i. record { matched = true; length = len i; examined = seen i; nesting = nest i })
  where
    len : c + (v.length + y.length) ≡ c + v.length + y.length
    len = omega arith

    seen : max x (c + max v.examined (v.length + y.examined)) ≡ max (max x (c + v.examined)) (c + v.length + y.examined)
    seen = omega arith

    nest : max d (max v.nesting y.nesting) ≡ max (max d v.nesting) y.nesting
    nest = omega arith
joined_more c x d v (out (refused j) t k) = refl

pub record Rounds (n at left : ℕ) (nodes : Evaluator) (a : ℕ) (goal : Out) (t : List ℕ) (c consumed examined deepest : ℕ) : Type 0 where
  pub in_text : at + consumed ≤ n
  pub in_reach : at + examined ≤ n + 1
  pub allowed : deepest ≤ left
  pub fuel : ℕ
  pub enough : n < fuel + (at + consumed)
  pub is : made (joined consumed examined deepest) (rounds_m fuel nodes a (at + consumed) t c) ≡ goal

pub rounds_start :
    (n at left : ℕ) (nodes : Evaluator) (a : ℕ) (t : List ℕ) (c : ℕ)
    → at ≤ n
    → Rounds n at left nodes a (rounds_m (suc n) nodes a at t c) t c 0 0 0
rounds_start n at left nodes a t c h =
    record {
      in_text = omega arith;
      in_reach = omega arith;
      allowed = omega arith;
      fuel = suc n;
      enough = omega arith;
      is =
          joined_none (rounds_m (suc n) nodes a (at + 0) t c) (rounds_match (suc n) nodes a (at + 0) t c)
          ∙ ap (λ (p : ℕ). rounds_m (suc n) nodes a p t c) (add-zero at);
    }

-- One round of it: the fuel is not spent, and what the round gave decides how it goes on.
module _ {n at left : ℕ} (nodes : Evaluator) (a : ℕ) {goal : Out} {t : List ℕ} {c consumed examined deepest : ℕ}
    (short : n ≤ 65535) (most : left + 1 ≤ 4096)
    (rounds : Rounds n at left nodes a goal t c consumed examined deepest)
  where
    one-round :
        (P : ℕ → Type 0)
        → ((f : ℕ) → n < suc f + (at + consumed) → made (joined consumed examined deepest) (rounds_m (suc f) nodes a (at + consumed) t c) ≡ goal → P f)
        → (f : ℕ) × P f
    one-round P k = go rounds.fuel rounds.enough rounds.is
      where
        go : (f : ℕ) → n < f + (at + consumed) → made (joined consumed examined deepest) (rounds_m f nodes a (at + consumed) t c) ≡ goal → (f : ℕ) × P f
        go zero e i = absurd (let h = rounds.in_text in omega arith)
        go (suc f) e i = (f, k f e i)

    pub round_refused :
        {r : Refusal} {d : ℕ} {u : List ℕ}
        → Gives n (at + consumed) left (nodes a (at + consumed) t c) (Err r) u d
        → made taken_over goal ≡ out (refused r) u d
    unfolding rounds_m
    round_refused g =
        let v = was_refused short (omega arith) g in
        (one-round (λ (f : ℕ). made taken_over goal ≡ out (refused _) _ _)
        (λ f e i.
        ap (made taken_over) (sym i)
        ∙ ap (λ (o : Out). made taken_over (made (joined consumed examined deepest) (bind o (λ x u d. after_round x.matched (eqb x.length 0) (rounds_m f nodes a) (at + consumed) x u d)))) v)
        ).1

    -- The round gave v with u and d: all rounds are then what comes after it.
    module _ {r d : ℕ} {u : List ℕ} (g : Gives n (at + consumed) left (nodes a (at + consumed) t c) (Ok r) u d) where
      after-round :
          (f : ℕ) (m s : Bool)
          → matched_of r ≡ m
          → eqb (length_of r) 0 ≡ s
          → rounds_m (suc f) nodes a (at + consumed) t c
          ≡ after_round m s (rounds_m f nodes a) (at + consumed) (found short (omega arith) g).value u d
      unfolding rounds_m
      after-round f m s em es =
          let v = found short (omega arith) g in
          let k = sym (says_matched short (omega arith) v) ∙ em in
          let l = ap (λ (j : ℕ). eqb j 0) (sym (says_length short (omega arith) v)) ∙ es in
          ap (λ (o : Out). bind o (λ x u d. after_round x.matched (eqb x.length 0) (rounds_m f nodes a) (at + consumed) x u d)) v.is
          ∙ ap (λ (b : Bool). after_round b (eqb v.value.length 0) (rounds_m f nodes a) (at + consumed) v.value u d) k
          ∙ ap (λ (b : Bool). after_round m b (rounds_m f nodes a) (at + consumed) v.value u d) l

      pub round_still : matched_of r ≡ true → length_of r ≡ 0 → made taken_over goal ≡ out (refused Records) u d
      unfolding after_round
      round_still m l =
          (one-round (λ (f : ℕ). made taken_over goal ≡ out (refused Records) u d)
          (λ f e i.
          ap (made taken_over) (sym i)
          ∙ ap (λ (o : Out). made taken_over (made (joined consumed examined deepest) o)) (after-round f true true m (eq-eqb (length_of r) 0 l)))
          ).1

      pub round_fails :
          (text : List ℕ) (called : Evaluator) (t₀ : List ℕ) (c₀ : ℕ) {w x y : ℕ}
          → goal ≡ rounds_m (suc (length text)) nodes a at t₀ c₀
          → matched_of r ≡ false
          → x ≡ max examined (consumed + examined_of r)
          → y ≡ max deepest (nesting_of r)
          → w ≡ word_of (record { matched = true; length = consumed; examined = x; nesting = 1 + y })
          → Gives n at (left + 1) (kind_m text nodes called (Star a) at t₀ c₀) (Ok w) u d
      unfolding kind_m after_round
      round_fails text called t₀ c₀ {x = x} {y = y} eg m ex ey ew =
          let v = found short (omega arith) g in
          let sx = says_examined short (omega arith) v in
          let sn = says_nesting short (omega arith) v in
          let whole : made taken_over goal ≡ out (answered (taken_over (joined consumed examined deepest (last_round v.value)))) u d =
          (one-round (λ (f : ℕ). made taken_over goal ≡ out (answered (taken_over (joined consumed examined deepest (last_round v.value)))) u d)
          (λ f e i.
          ap (made taken_over) (sym i)
          ∙ ap (λ (o : Out). made taken_over (made (joined consumed examined deepest) o)) (after-round f false (eqb (length_of r) 0) m refl))
          ).1 in
          let len : consumed + 0 ≡ consumed = add-zero consumed in
          let seen : max examined (consumed + v.value.examined) ≡ x = omega arith in
          let nest : 1 + max deepest v.value.nesting ≡ 1 + y = omega arith in
          let same : taken_over (joined consumed examined deepest (last_round v.value)) ≡ record { matched = true; length = consumed; examined = x; nesting = 1 + y } =
          λ i. record { matched = true; length = len i; examined = seen i; nesting = nest i } in
          gives_value (record { matched = true; length = consumed; examined = x; nesting = 1 + y })
          (ap (made taken_over) (sym eg) ∙ whole ∙ ap (λ (z : Evaluation). out (answered z) u d) same)
          ew
          (record {
            in_text = rounds.in_text;
            up_to_end = omega (arith, rounds.in_reach, v.bounds.shape.up_to_end);
            in_examined = omega arith;
            failure = λ f. absurd (true≢false f);
            nested = omega arith;
          })
          (omega (arith, rounds.allowed, v.bounds.allowed))

      pub round_goes :
          {x y l : ℕ}
          → matched_of r ≡ true
          → x ≡ max examined (consumed + examined_of r)
          → y ≡ max deepest (nesting_of r)
          → l ≡ length_of r
          → (l ≡ 0 → ⊥)
          → Rounds n at left nodes a goal u d (consumed + l) x y
      unfolding after_round
      round_goes {x} {y} {l} m ex ey el ne =
          let v = found short (omega arith) g in
          let sx = says_examined short (omega arith) v in
          let sn = says_nesting short (omega arith) v in
          let sl = says_length short (omega arith) v in
          let s = ne_eqb (length_of r) 0 (λ z. ne (el ∙ z)) in
          let step =
          one-round
          (λ (f : ℕ). (n < suc f + (at + consumed)) × (made (joined (consumed + v.value.length) (max examined (consumed + v.value.examined)) (max deepest v.value.nesting)) (rounds_m f nodes a (at + consumed + v.value.length) u d) ≡ goal))
          (λ f e i. (
            e,
            sym (joined_more consumed examined deepest v.value (rounds_m f nodes a (at + consumed + v.value.length) u d))
                ∙ sym (ap (made (joined consumed examined deepest)) (after-round f true false m s))
                ∙ i,
          )) in
          let len : v.value.length ≡ l = omega arith in
          let seen : max examined (consumed + v.value.examined) ≡ x = omega arith in
          let nest : max deepest v.value.nesting ≡ y = omega arith in
          let place : at + consumed + l ≡ at + (consumed + l) = omega arith in
          record {
            in_text = omega (arith, v.bounds.shape.in_text);
            in_reach = omega (arith, rounds.in_reach, v.bounds.shape.up_to_end);
            allowed = omega (arith, rounds.allowed, v.bounds.allowed);
            fuel = step.0;
            enough = omega (arith, step.1.0, ne);
            is =
                sym (ap (λ (j : ℕ). made (joined (consumed + j) x y) (rounds_m step.0 nodes a (at + consumed + j) u d)) len
                ∙ ap (λ (p : ℕ). made (joined (consumed + l) x y) (rounds_m step.0 nodes a p u d)) place)
                ∙ ap (λ (j : ℕ). made (joined (consumed + v.value.length) j y) (rounds_m step.0 nodes a (at + consumed + v.value.length) u d)) (sym seen)
                ∙ ap (λ (j : ℕ). made (joined (consumed + v.value.length) (max examined (consumed + v.value.examined)) j) (rounds_m step.0 nodes a (at + consumed + v.value.length) u d)) (sym nest)
                ∙ step.1.1;
          }

      -- What the word of the loop's answer asks.
      pub round_bounds : (max examined (consumed + examined_of r) ≤ n + 1) × (max deepest (nesting_of r) ≤ left)
      round_bounds =
          let v = found short (omega arith) g in
          let sx = says_examined short (omega arith) v in
          let sn = says_nesting short (omega arith) v in
          (omega (arith, rounds.in_reach, v.bounds.shape.up_to_end), omega (arith, rounds.allowed, v.bounds.allowed))
