-- The ways through a rule and a node of the walk. Assumes nothing.
use Rattle.std.specs.Prelude.{Option, Some, None, Result, Ok, Err}
use Prim.Native.Nat.{ℕ, zero, suc, ◌+◌, ◌-◌, ◌%◌, ◌≤◌, ◌<◌, ◌^◌}
use native.Mathlib.Omega.{arith}
use mathlib.Core.Path.{◌≡◌, refl, sym, ap, ◌∙◌, subst}
use mathlib.Core.Bool.{Bool, true, false, not, ◌&&◌, and-false}
use mathlib.Core.List.{List, [], ◌∷◌}
use lib.ListN.{length, get_or, set}
use lib.Dec.{leb}
use borrow.Author.Tests.{le-leb, lt-leb, not-true, not-false}
use Rattle.grammar.specs.declared.refusal.Refusal.{Refusal}
use Rattle.grammar.specs.declared.refusal.Refusal.TheVariants.{Records, Nesting, Rows}
use Rattle.grammar.specs.declared.node.Node.{Node}
use Rattle.grammar.specs.declared.node.Terminal.{Terminal}
use Rattle.grammar.specs.declared.node.Node.TheVariants.{Empty, Text, Unlawful}
use Rattle.grammar.specs.declared.node.NodeFields.{NodeFields}
use Rattle.grammar.specs.Image.{fields_of, node_of}
use Rattle.grammar.proofs.Nodes.{Few, few}
use Rattle.image.specs.Fields.{SameFields}
use Rattle.packrat.proofs.LoadedRuns.{word_is}
use Rattle.packrat.proofs.Rules.{was_possible, was_impossible}
use Rattle.grammar.specs.Terminal.{terminal_at}
use Rattle.records.specs.declared.Record.{Record}
use Rattle.records.specs.Words.{is_held, possible, matched_of, length_of, record_of, decoded}
use Rattle.records.specs.Slots.{slot_of}
use Rattle.records.proofs.Test.{says_possible}
use Rattle.loaded.specs.Loaded.{word_b}
use Rattle.rows.specs.Rows.{row_word}
use Rattle.rows.specs.Window.{touches}
use Rattle.rows.specs.Walk.{walked, stopped, Trail, trail, bind, after, met, entered, pair_v, kind_v, node_v}
use Rattle.rows.specs.Bounds.{Bounded}
use Rattle.rows.proofs.Bounds.{node_bounded}
use Rattle.listing.specs.declared.state.Walk.{Walk}
use Rattle.listing.specs.Gives.{Gives, Steady, told_length, nodes_of, rules_of, inside_of}
use Rattle.listing.proofs.Gives.{found, failed, at_once, just, and_then, and_stop}
use Rattle.listing.proofs.Paths.{prefixed}

-- What a possible word says stays in the text.
pub held_in_text : (word at n : ℕ) {h : Record} → Some h ≡ decoded word at n → at + h.length ≤ n
held_in_text word at n {h} from =
    let known = was_possible h (record_of word) (possible word at n) from in
    let i = (says_possible word at n known.0).in_text in
    let q = ap (λ (q : Record). q.length) known.1 in
    omega arith

module _ (w : Walk) {at k allowance : ℕ} (s : Steady w.text.now at k allowance) (left root r lo hi : ℕ) {word : ℕ}
    (word_is : word ≡ get_or w.table.now (slot_of w.grammar.now.rules r at) 0)
  where
    abbrev n : ℕ
    n = length w.text.now

    -- What the rule's body has, after so many rows.
    abbrev body : ℕ → Trail
    body c = nodes_of w left root at lo hi (k + 1) c

    abbrev Entered : (touched full : Bool) → (len : ℕ) → Trail
    Entered touched full len =
        entered touched full len (row_word (record { rule = r % 256; depth = k; start = at; length = len })) body w.count

    abbrev Inner : ℕ → Trail
    Inner len = Entered (touches lo hi at len) (leb w.room w.count) len

    opens :
        rules_of w left root r at lo hi k w.count
        ≡ met (is_held word && possible word at n) (matched_of word) w.count (Inner (length_of word))
    unfolding pair_v
    opens =
        ap (λ (v : ℕ). met (is_held v && possible v at n) (matched_of v) w.count (Inner (length_of v)))
        (sym word_is)

    pub rule_empty :
        is_held word ≡ false
        → Gives w.count w.rows.now (Err Records) w.rows.now w.count (rules_of w left root r at lo hi k w.count)
    unfolding met
    rule_empty e =
        at_once (stopped Records)
        (opens ∙ ap (λ (b : Bool). met (b && possible word at n) (matched_of word) w.count (Inner (length_of word))) e) refl

    pub rule_impossible :
        None ≡ decoded word at (length w.text.now)
        → Gives w.count w.rows.now (Err Records) w.rows.now w.count (rules_of w left root r at lo hi k w.count)
    unfolding met
    rule_impossible e =
        at_once (stopped Records)
        (opens ∙ ap (λ (b : Bool). met b (matched_of word) w.count (Inner (length_of word)))
        (ap (λ (b : Bool). is_held word && b) (was_impossible (record_of word) (possible word at n) e) ∙ and-false (is_held word)))
        refl

    module _ (held : is_held word ≡ true) {h : Record} (from : Some h ≡ decoded word at (length w.text.now)) where
      fine : possible word at n ≡ true
      fine = (was_possible h (record_of word) (possible word at n) from).0

      same : h ≡ record_of word
      same = (was_possible h (record_of word) (possible word at n) from).1

      knows : rules_of w left root r at lo hi k w.count ≡ met true h.matched w.count (Inner h.length)
      knows =
          opens
          ∙ ap (λ (b : Bool). met (b && possible word at n) (matched_of word) w.count (Inner (length_of word))) held
          ∙ ap (λ (b : Bool). met b (matched_of word) w.count (Inner (length_of word))) fine
          ∙ ap (λ (q : Record). met true q.matched w.count (Inner q.length)) (sym same)

      pub rule_failed :
          not h.matched ≡ true → Gives w.count w.rows.now (Ok None) w.rows.now w.count (rules_of w left root r at lo hi k w.count)
      unfolding met
      rule_failed m =
          at_once (walked false 0 w.count) (knows ∙ ap (λ (b : Bool). met true b w.count (Inner h.length)) (not-true h.matched m)) refl

      module _ (m : not h.matched ≡ false) where
        enters : rules_of w left root r at lo hi k w.count ≡ Inner h.length
        unfolding met
        enters = knows ∙ ap (λ (b : Bool). met true b w.count (Inner h.length)) (not-false h.matched m)

        pub rule_missed :
            touches lo hi at h.length ≡ false
            → Gives w.count w.rows.now (Ok (Some h.length)) w.rows.now w.count (rules_of w left root r at lo hi k w.count)
        unfolding entered
        rule_missed e =
            at_once (walked true h.length w.count) (enters ∙ ap (λ (b : Bool). Entered b (leb w.room w.count) h.length) e) refl

        module _ (t : touches lo hi at h.length ≡ true) where
          touched : rules_of w left root r at lo hi k w.count ≡ Entered true (leb w.room w.count) h.length
          touched = enters ∙ ap (λ (b : Bool). Entered b (leb w.room w.count) h.length) t

          pub rule_full :
              w.room ≤ w.count → Gives w.count w.rows.now (Err Rows) w.rows.now w.count (rules_of w left root r at lo hi k w.count)
          unfolding entered
          rule_full e =
              at_once (stopped Rows) (touched ∙ ap (λ (b : Bool). Entered true b h.length) (le-leb w.room w.count e)) refl

          module _ (free : w.count < w.room) {row : ℕ}
              (row_is : row ≡ row_word (record { rule = r % 2 ^ 8; depth = k % 2 ^ 16; start = at % 2 ^ 16; length = h.length % 2 ^ 16 }))
              {y : Result (Option ℕ) Refusal} {d : ℕ} {l1 : List ℕ}
              (g : Gives (w.count + 1) (set w.rows.now w.count row) y l1 d (nodes_of w left root at lo hi (k + 1) (w.count + 1)))
            where
              its_length : Bool → ℕ → ℕ → Trail
              its_length m l c = trail (walked true h.length c) []

              -- Each field of the row fits.
              fits : row_word (record { rule = r % 256; depth = k; start = at; length = h.length }) ≡ row
              fits =
                  let deep : k ≡ k % 2 ^ 16 = omega (arith, s.shallow) in
                  let there : at ≡ at % 2 ^ 16 = omega (arith, s.here, w.short) in
                  let long : h.length ≡ h.length % 2 ^ 16 = omega (arith, held_in_text word at n from, w.short) in
                  (λ i. row_word (record { rule = r % 256; depth = deep i; start = there i; length = long i })) ∙ sym row_is

              with_row :
                  {q : Result (Option ℕ) Refusal} → Gives (w.count + 1) (set w.rows.now w.count row) q l1 d (bind (body (w.count + 1)) its_length)
                  → Gives w.count w.rows.now q l1 d (rules_of w left root r at lo hi k w.count)
              unfolding entered its_length
              with_row t =
                  prefixed (row ∷ [])
                  (touched
                  ∙ ap (λ (b : Bool). Entered true b h.length) (lt-leb w.room w.count free)
                  ∙ ap (λ (v : ℕ). after (v ∷ []) (bind (body (w.count + 1)) its_length)) fits)
                  refl (omega arith) t

              pub rule_stops :
                  {e : Refusal} {q : Result (Option ℕ) Refusal} → y ≡ Err e → q ≡ Err e
                  → Gives w.count w.rows.now q l1 d (rules_of w left root r at lo hi k w.count)
              rule_stops i j = with_row (and_stop its_length g i j)

              -- Whether the body matches is not asked: the record says it.
              pub rule_goes :
                  {x : Option ℕ} → y ≡ Ok x → Gives w.count w.rows.now (Ok (Some h.length)) l1 d (rules_of w left root r at lo hi k w.count)
              unfolding its_length
              rule_goes {x} i = go x i
                where
                  stays : Bounded n w.room at (w.count + 1) (body (w.count + 1))
                  stays = node_bounded w.room w.grammar.now w.text.now w.table.now left root at lo hi (k + 1) (w.count + 1) s.here (omega arith)

                  go : (x : Option ℕ) → y ≡ Ok x → Gives w.count w.rows.now (Ok (Some h.length)) l1 d (rules_of w left root r at lo hi k w.count)
                  go (Some x) i =
                      let f = found g stays i in
                      with_row (and_then f.words its_length f.is f.written f.counted (at_once (walked true h.length d) refl refl))
                  go None i =
                      let f = failed g stays i in
                      with_row (and_then f.words its_length f.is f.written f.counted (at_once (walked true h.length d) refl refl))

-- The node that a word stands for, as its fields were read: its parts are numbers of 12 bits.
pub parts_small : (word : ℕ) {f : NodeFields} → SameFields f (fields_of word) → {m : Node} → m ≡ node_of f → Few m
parts_small word {f} s is = few f (omega (arith, s.its_a)) (omega (arith, s.its_b)) (sym is)

-- A node: without an allowance, and by its word.
module _ (w : Walk) {at k left : ℕ} (s : Steady w.text.now at k left) (i lo hi : ℕ) where
  pub node_too_deep : left ≡ 0 → Gives w.count w.rows.now (Err Nesting) w.rows.now w.count (nodes_of w left i at lo hi k w.count)
  node_too_deep e =
      subst (λ (m : ℕ). Gives w.count w.rows.now (Err Nesting) w.rows.now w.count (nodes_of w m i at lo hi k w.count)) (sym e)
      (unfold node_v in at_once (stopped Nesting) refl refl)

  abbrev pub Inside : (left : ℕ) → Node → Trail
  Inside left m = inside_of w left (word_b (get_or w.grammar.now.words i 0)) m at lo hi k w.count

  module _ (some : left ≡ 0 → ⊥) {f : NodeFields} (same : SameFields f (fields_of (get_or w.grammar.now.words i 0))) {m : Node} (is : m ≡ node_of f)
    where
      node_is : (j : ℕ) → nodes_of w (suc j) i at lo hi k w.count ≡ Inside j m
      unfolding node_v
      node_is j = ap (Inside j) (word_is (get_or w.grammar.now.words i 0) same (sym is))

      pub node_goes :
          {r : Result (Option ℕ) Refusal} {d : ℕ} {l1 : List ℕ}
          → Gives w.count w.rows.now r l1 d (inside_of w (left - 1) (word_b (get_or w.grammar.now.words i 0)) m at lo hi k w.count)
          → Gives w.count w.rows.now r l1 d (nodes_of w left i at lo hi k w.count)
      node_goes {r} {d} {l1} g = go left some g
        where
          go :
              (left : ℕ) → (left ≡ 0 → ⊥) → Gives w.count w.rows.now r l1 d (Inside (left - 1) m)
              → Gives w.count w.rows.now r l1 d (nodes_of w left i at lo hi k w.count)
          go zero ne g = absurd (ne refl)
          go (suc j) ne g =
              just (node_is j) (subst (λ (q : ℕ). Gives w.count w.rows.now r l1 d (Inside q m)) (omega arith) g)

  module _ (some : left ≡ 0 → ⊥) {f : NodeFields} (same : SameFields f (fields_of (get_or w.grammar.now.words i 0))) where
    pub empty_goes : Empty ≡ node_of f → Gives w.count w.rows.now (Ok (Some 0)) w.rows.now w.count (nodes_of w left i at lo hi k w.count)
    unfolding kind_v
    empty_goes e = node_goes some same e (at_once (walked true 0 w.count) refl refl)

    pub text_goes :
        {t : Terminal} → Text t ≡ node_of f → {x : Option ℕ} → x ≡ told_length (terminal_at t w.text.now at)
        → Gives w.count w.rows.now (Ok x) w.rows.now w.count (nodes_of w left i at lo hi k w.count)
    unfolding kind_v
    text_goes {t} e {x} q =
        node_goes some same e
        (at_once (walked (terminal_at t w.text.now at).matched (terminal_at t w.text.now at).length w.count) refl (ap Ok q))

    pub unlawful_goes :
        Unlawful ≡ node_of f → Gives w.count w.rows.now (Err Records) w.rows.now w.count (nodes_of w left i at lo hi k w.count)
    unfolding kind_v
    unlawful_goes e = node_goes some same e (at_once (stopped Records) refl refl)
