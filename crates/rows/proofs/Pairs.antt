-- Over a true and closed table: what the walk does at a pair whose word is held, and which pairs are held. Assumes nothing.
--     pair_says       the pair's word says its evaluation
--     numbered        a node by its number
--     Held            the pair itself is held, or the pairs that are called in what is not a pair
use Prim.Native.Nat.{ℕ, suc, ◌+◌, ◌%◌, ◌≤◌, ◌<◌}
use native.Mathlib.Omega.{arith}
use mathlib.Core.Path.{◌≡◌, ap, ◌∙◌}
use mathlib.Core.Bool.{true, ◌&&◌}
use mathlib.Core.List.{List}
use lib.ListN.{length, get_or}
use lib.Dec.{leb}
use Rattle.grammar.proofs.Bools.{joined}
use Rattle.grammar.specs.declared.Evaluation.{Evaluation}
use Rattle.grammar.specs.declared.node.Node.{Node}
use Rattle.grammar.specs.Image.{rules, node}
use Rattle.grammar.specs.Evaluates.{Fresh, Subject, bodies_only, a_node, a_pair, rounds_of}
use Rattle.grammar.proofs.Determinism.{one}
use Rattle.evaluation.specs.Calls.{Pair, In}
use Rattle.evaluation.proofs.Plain.{fresh_within}
use Rattle.records.specs.Words.{is_held, possible, matched_of, length_of, word_of}
use Rattle.records.proofs.Codec.{matched_back, length_back}
use Rattle.records.proofs.Test.{passes_test}
use Rattle.packrat.specs.Over.{word_at}
use Rattle.packrat.specs.True.{TrueTable}
use Rattle.loaded.specs.declared.form.LoadedGrammar.{LoadedGrammar}
use Rattle.loaded.specs.Loaded.{Loaded, word_b}
use Rattle.packrat.proofs.OverTables.{word-possible}
use Rattle.rows.specs.Rows.{row_word}
use Rattle.rows.specs.Window.{touches}
use Rattle.rows.specs.Walk.{Walker, met, entered, pair_v, kind_v, node_v}

pub record Says (n p word : ℕ) (z : Evaluation) : Type 0 where
  pub known : is_held word && possible word p n ≡ true
  pub matched_is : matched_of word ≡ z.matched
  pub length_is : length_of word ≡ z.length

module _ (img text table : List ℕ) where
  abbrev pub Held : Subject → ℕ → List Pair → Type 0
  Held (a_node m) p calls = (y : Pair) → In y calls → is_held (word_at img table y.rule y.position) ≡ true
  Held (a_pair r) p calls = is_held (word_at img table r p) ≡ true
  Held (rounds_of a) p calls = (y : Pair) → In y calls → is_held (word_at img table y.rule y.position) ≡ true

module _ (img text table : List ℕ) (few : rules img ≤ 64) (short : length text ≤ 65535) (true_words : TrueTable img text table) where
  word_says :
      {r p : ℕ} {z : Evaluation} → Fresh img text (a_pair r) p z → r < rules img → p ≤ length text
      → is_held (word_at img table r p) ≡ true → Says (length text) p (word_at img table r p) z
  word_says {r} {p} {z} u l h e =
      let t = true_words.held_words r p l h e in
      let q = word-possible t.value p (length text) short (fresh_within t.evaluated h) t.nesting_allowed in
      let v = one img text bodies_only t.evaluated u in
      record {
        known =
            joined e
            (ap (λ (w : ℕ). possible w p (length text)) t.word_is ∙ passes_test (word_of t.value) p (length text) q.1);
        matched_is = ap matched_of t.word_is ∙ matched_back t.value q.0 ∙ ap (λ (x : Evaluation). x.matched) v;
        length_is = ap length_of t.word_is ∙ length_back t.value q.0 ∙ ap (λ (x : Evaluation). x.length) v;
      }

  pub pair_says :
      {g : LoadedGrammar} → Loaded img g
      → {r p : ℕ} {z : Evaluation} → Fresh img text (a_pair r) p z → r < rules img → p ≤ length text
      → is_held (word_at img table r p) ≡ true
      → (ρ room : ℕ) (ev : Walker) (lo hi k c : ℕ)
      → pair_v g.rules ρ room text table ev r p lo hi k c
      ≡ met true z.matched c
      (entered (touches lo hi p z.length) (leb room c) z.length
      (row_word (record { rule = r; depth = k; start = p; length = z.length }))
      (ev ρ p lo hi (k + 1)) c)
  unfolding pair_v
  pair_says {g} loaded {r} {p} {z} u l h e ρ room ev lo hi k c =
      let s = word_says u l h e in
      let narrow : r % 256 ≡ r = omega (arith, few) in
      ap (λ (R : ℕ). pair_v R ρ room text table ev r p lo hi k c) loaded.rules_are
      ∙ (λ i.
      met (s.known i) (s.matched_is i) c
      (entered (touches lo hi p (s.length_is i)) (leb room c) (s.length_is i)
      (row_word (record { rule = narrow i; depth = k; start = p; length = s.length_is i }))
      (ev ρ p lo hi (k + 1)) c))

-- The node with a number is the image's.
pub numbered :
    (img text table : List ℕ) {g : LoadedGrammar} → Loaded img g → (room left i at lo hi k c : ℕ)
    → node_v room g text table (suc left) i at lo hi k c
    ≡ kind_v text (node_v room g text table left)
    (pair_v g.rules (word_b (get_or g.words i 0)) room text table (node_v room g text table left)) (node img i) at lo hi k c
unfolding node_v
numbered img text table {g} loaded room left i at lo hi k c =
    ap (λ (m : Node).
    kind_v text (node_v room g text table left)
    (pair_v g.rules (word_b (get_or g.words i 0)) room text table (node_v room g text table left)) m at lo hi k c)
    (loaded.words_are i).node_is
