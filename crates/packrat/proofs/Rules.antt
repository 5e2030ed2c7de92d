-- The ways through a rule: its pair is met in the table, or its body is evaluated and stored; and a node's first step.
-- Assumes nothing.
use Rattle.std.specs.Prelude.{Ok, Err}
use Rattle.grammar.specs.declared.refusal.Refusal.{Refusal}
use Rattle.grammar.specs.declared.refusal.Refusal.TheVariants.{Records, Nesting}
use Prim.Native.Nat.{ℕ, suc, ◌+◌, ◌-◌, ◌%◌, ◌≤◌, ◌<◌, ◌^◌}
use native.Mathlib.Omega.{arith}
use mathlib.Core.Path.{◌≡◌, refl, sym, ap, ◌∙◌, subst}
use mathlib.Core.Bool.{Bool, true, false, cond}
use mathlib.Core.List.{List}
use lib.ListN.{length, get_or, set}
use lib.Dec.{leb}
use borrow.Author.Tests.{le-leb, lt-leb}
use Rattle.grammar.specs.declared.node.Node.{Node}
use Rattle.grammar.specs.declared.node.Node.TheVariants.{Call}
use Rattle.evaluation.specs.Within.{Within}
use Rattle.records.specs.declared.Record.{Record}
use Rattle.std.specs.Prelude.{Some, None, Result}
use Rattle.records.specs.Words.{is_held, possible, IsPossible, nesting_of, value_of, word_of, record_of, record_word}
use Rattle.records.specs.Slots.{slot_of}
use Rattle.records.proofs.Codec.{word_again}
use Rattle.records.proofs.Test.{says_possible}
use Rattle.packrat.specs.Model.{answered, Out, out, Evaluator, bind, met, looked, pair_m}
use Rattle.loaded.specs.declared.form.LoadedGrammar.{LoadedGrammar}
use Rattle.loaded.specs.Loaded.{word_node, word_b}
use Rattle.packrat.specs.Loaded.{word_m, node_w, kind_w}
use Rattle.packrat.specs.Gives.{Gives}
use Rattle.packrat.proofs.Gives.{found, was_refused, gives_value, gives_refusal}

-- What the decoder's answer says.
pub was_possible : (r q : Record) (b : Bool) → Some r ≡ cond b (Some q) None → (b ≡ true) × (r ≡ q)
was_possible r q true e = (refl, cc)
was_possible r q false e = absurd (let z : ◌≡◌ {A = ℕ} 0 1 = cc in omega arith)

pub was_impossible : (q : Record) (b : Bool) → None ≡ cond b (Some q) None → b ≡ false
was_impossible q true e = absurd (let z : ◌≡◌ {A = ℕ} 0 1 = cc in omega arith)
was_impossible q false e = refl

-- What a possible word says is in its bounds.
pub possible_within : (word at n : ℕ) → IsPossible word at n → Within n at (value_of word)
unfolding value_of
possible_within word at n h =
    record {
      in_text = h.in_text;
      up_to_end = h.up_to_end;
      in_examined = h.in_examined;
      failure = h.failure;
      nested = h.some_nesting;
    }

module _ (rules root : ℕ) (text : List ℕ) (nodes : Evaluator) (left rule at : ℕ) (t : List ℕ) (c : ℕ) {word : ℕ}
    (here : word ≡ get_or t (slot_of rules rule at) 0)
  where
    looks : {b : Bool} → is_held word ≡ b → pair_m rules root text nodes left rule at t c ≡ looked b rules root text nodes left rule at t c
    unfolding pair_m
    looks e = ap (λ (k : Bool). looked k rules root text nodes left rule at t c) (sym (ap is_held here) ∙ e)

    meets :
        {p a : Bool}
        → is_held word ≡ true
        → possible word at (length text) ≡ p
        → leb (nesting_of word) left ≡ a
        → pair_m rules root text nodes left rule at t c ≡ met p a word t c
    unfolding looked
    meets {p} {a} e d k =
        looks e
        ∙ ap (λ (w : ℕ). met (possible w at (length text)) (leb (nesting_of w) left) w t c) (sym here)
        ∙ ap (λ (b : Bool). met b (leb (nesting_of word) left) word t c) d
        ∙ ap (λ (b : Bool). met p b word t c) k

    pub rule_impossible :
        is_held word ≡ true
        → possible word at (length text) ≡ false
        → Gives (length text) at left (pair_m rules root text nodes left rule at t c) (Err Records) t c
    unfolding met
    rule_impossible e d = gives_refusal (meets e d refl)

    pub rule_too_deep :
        is_held word ≡ true
        → possible word at (length text) ≡ true
        → left < nesting_of word
        → Gives (length text) at left (pair_m rules root text nodes left rule at t c) (Err Nesting) t c
    unfolding met
    rule_too_deep e d l = gives_refusal (meets e d (lt-leb (nesting_of word) left l))

    pub rule_met :
        {w : ℕ}
        → is_held word ≡ true
        → possible word at (length text) ≡ true
        → nesting_of word ≤ left
        → w ≡ record_word (record_of word)
        → Gives (length text) at left (pair_m rules root text nodes left rule at t c) (Ok w) t c
    unfolding met
    rule_met e d l k =
        let q = says_possible word at (length text) d in
        gives_value (value_of word)
        (meets e d (le-leb (nesting_of word) left l))
        (k ∙ word_again word q.zero_bits)
        (possible_within word at (length text) q)
        (value-nesting l)
      where
        value-nesting : nesting_of word ≤ left → (value_of word).nesting ≤ left
        value-nesting l = unfold value_of in l

    -- The body, where the pair is not held.
    stores : Out → Out
    stores o = bind o (λ x u d. out (answered x) (set u (slot_of rules rule at) (word_of x)) ((d + 1) % 2 ^ 64))

    module _ (short : length text ≤ 65535) (most : left ≤ 4096) (e : is_held word ≡ false) {d : ℕ} {u : List ℕ} where
      pub rule_refused :
          {r : Refusal}
          → Gives (length text) at left (nodes root at t c) (Err r) u d
          → Gives (length text) at left (pair_m rules root text nodes left rule at t c) (Err r) u d
      unfolding looked stores
      rule_refused g = gives_refusal (looks e ∙ ap stores (was_refused short most g))

      pub rule_stored :
          {r : ℕ}
          → Gives (length text) at left (nodes root at t c) (Ok r) u d
          → Gives (length text) at left (pair_m rules root text nodes left rule at t c) (Ok r) (set u (slot_of rules rule at) r) ((d + 1) % 2 ^ 64)
      unfolding looked stores
      rule_stored g =
          let v = found short most g in
          gives_value v.value
          (looks e
          ∙ ap stores v.is
          ∙ ap (λ (w : ℕ). out (answered v.value) (set u (slot_of rules rule at) w) ((d + 1) % 2 ^ 64)) (sym v.word_is))
          v.word_is
          v.bounds.shape
          v.bounds.allowed

module _ {n : ℕ} (g : LoadedGrammar) (text : List ℕ) (left : ℕ) where
  -- A node: without an allowance, and with one.
  pub node_too_deep :
      (i at : ℕ) (t : List ℕ) (c : ℕ) → left ≡ 0 → Gives n at left (node_w g text left i at t c) (Err Nesting) t c
  node_too_deep i at t c e = subst (λ (l : ℕ). Gives n at l (node_w g text l i at t c) (Err Nesting) t c) (sym e) (unfold node_w in gives_refusal refl)

  pub node_goes :
      (i at : ℕ) (t : List ℕ) (c : ℕ) {r : Result ℕ Refusal} {d : ℕ} {u : List ℕ}
      → (left ≡ 0 → ⊥)
      → Gives n at left (word_m g text (left - 1) (get_or g.words i 0) at t c) r u d
      → Gives n at left (node_w g text left i at t c) r u d
  node_goes i at t c {r} {d} {u} ne h =
      let l : suc (left - 1) ≡ left = omega arith in
      subst (λ (k : ℕ). Gives n at left (node_w g text k i at t c) r u d) l (unfold node_w in h)

  -- A node's word, by the node that it stands for.
  pub word_goes :
      (w at : ℕ) (t : List ℕ) (c : ℕ) {m : Node} {r : Result ℕ Refusal} {d : ℕ} {u : List ℕ}
      → (left ≡ 0 → ⊥)
      → word_node w ≡ m
      → Gives n at (left - 1 + 1) (kind_w g text (left - 1) (word_b w) m at t c) r u d
      → Gives n at left (word_m g text (left - 1) w at t c) r u d
  word_goes w at t c {m} {r} {d} {u} ne e h =
      let l : left - 1 + 1 ≡ left = omega arith in
      subst (λ (k : ℕ). Gives n at k (word_m g text (left - 1) w at t c) r u d) l
      (subst (λ (x : Node). Gives n at (left - 1 + 1) (kind_w g text (left - 1) (word_b w) x at t c) r u d) (sym e) h)

  -- A call's word: the root that the body has is the word's field B.
  pub call_goes :
      (w at : ℕ) (t : List ℕ) (c : ℕ) {root rule d : ℕ} {r : Result ℕ Refusal} {u : List ℕ}
      → (left ≡ 0 → ⊥)
      → root ≡ word_b w
      → word_node w ≡ Call rule
      → Gives n at (left - 1 + 1) (kind_w g text (left - 1) root (Call rule) at t c) r u d
      → Gives n at left (word_m g text (left - 1) w at t c) r u d
  call_goes w at t c {rule = rule} {d} {r} {u} ne b e h =
      word_goes w at t c ne e (subst (λ (k : ℕ). Gives n at (left - 1 + 1) (kind_w g text (left - 1) k (Call rule) at t c) r u d) b h)
