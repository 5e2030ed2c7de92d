-- Over any table the evaluator answers nothing but the evaluation in which each held pair takes what its word says: where there is none, it
-- refuses. When it answers that evaluation, and when it gives 14, is `pair_over`. Assumes nothing.
--     only_over    for every pair at a position of the text, and every allowance of at most 4,096
use Rattle.grammar.specs.declared.refusal.Refusal.{Refusal}
use Rattle.grammar.specs.declared.refusal.Refusal.TheVariants.{Words, Records, Nesting}
use Prim.Native.Nat.{ℕ, zero, suc, ◌+◌, ◌%◌, ◌≤◌, ◌<◌, ◌^◌}
use native.Mathlib.Omega.{arith}
use mathlib.Core.Path.{◌≡◌, refl, sym, ap, ◌∙◌, subst}
use mathlib.Core.Bool.{Bool, true, false}
use mathlib.Core.List.{List}
use lib.ListN.{length, set}
use lib.Dec.{eqb, leb}
use borrow.Author.Tests.{le-leb}
use Rattle.grammar.specs.declared.Evaluation.{Evaluation}
use Rattle.grammar.specs.declared.node.Node.{Node}
use Rattle.grammar.specs.declared.node.Node.TheVariants.{Empty, Text, Sequence, Choice, Star, NotPredicate, Call, Unlawful}
use Rattle.grammar.specs.Image.{node, nodes, root, rules, body}
use Rattle.grammar.specs.Questions.{Question4}
use Rattle.grammar.specs.Evaluates.{Subject, by_body, by_record, a_node, a_pair, rounds_of}
use Rattle.grammar.specs.Evaluates.{in_sequence, taken_over, second_choice, round_then, negated}
use Rattle.grammar.specs.Evaluates.{ev_empty, ev_terminal, ev_then_first_fails, ev_then, ev_else_first, ev_else_second}
use Rattle.grammar.specs.Evaluates.{ev_star, ev_last_round, ev_round, ev_not, ev_call, ev_body, ev_record}
use Rattle.grammar.proofs.References.{Refers, refers, root_in_range}
use Rattle.records.specs.Words.{is_held, possible, nesting_of, value_of, word_of}
use Rattle.records.specs.Slots.{slot_of}
use Rattle.records.proofs.Codec.{value_back, word_held}
use Rattle.evaluation.specs.Calls.{Pair}
use Rattle.packrat.specs.Model.{answered, refused, Out, out, bind, after_first, after_choice, after_round, rounds_m}
use Rattle.packrat.specs.Model.{met, looked, pair_m, rule_m, kind_m, node_m}
use Rattle.packrat.specs.Over.{word_at, taken, over, Over}
use Rattle.packrat.proofs.Grown.{Slot, kept, stored, Grown}
use Rattle.packrat.proofs.OverTables.{Result, fine, deep, numbered, gives, over_within, word-possible}

-- How the first table answers a pair whose word stands as it was.
module _ (img text table t : List ℕ) (r p : ℕ) (w : word_at img t r p ≡ word_at img table r p) where
  recorded :
      is_held (word_at img t r p) ≡ true
      → possible (word_at img t r p) p (length text) ≡ true
      → over img text table r p ≡ by_record (value_of (word_at img t r p))
  unfolding over
  recorded e k =
      ap (λ (n : ℕ). taken (is_held n) (possible n p (length text)) n) (sym w)
      ∙ ap (λ (b : Bool). taken b (possible (word_at img t r p) p (length text)) (word_at img t r p)) e
      ∙ ap (λ (b : Bool). taken true b (word_at img t r p)) k

  unrecorded : is_held (word_at img t r p) ≡ false → over img text table r p ≡ by_body
  unfolding over
  unrecorded e =
      ap (λ (n : ℕ). taken (is_held n) (possible n p (length text)) n) (sym w)
      ∙ ap (λ (b : Bool). taken b (possible (word_at img t r p) p (length text)) (word_at img t r p)) e

module _ (img text table : List ℕ) (words : Question4 img) (short : length text ≤ 65535) where
  -- A run is refused, or answers an evaluation of its subject over the table.
  data Told (o : Out) (s : Subject) (p : ℕ) : Type 0 where
    answers : (z : Evaluation) (u : List ℕ) (d : ℕ) → Over img text table s p z → o ≡ out (answered z) u d → Told o s p
    refuses : (k : Refusal) (u : List ℕ) (d : ℕ) → o ≡ out (refused k) u d → Told o s p

  -- The table that an answered run leaves has grown.
  grown_of :
      {o : Out} {z : Evaluation} {l c d : ℕ} {t u : List ℕ} {ps : List Pair}
      → Result img text table words short o z l t c ps
      → o ≡ out (answered z) u d
      → Grown img text table u
  grown_of {u = u} (fine v i h g k e) q = let same : v ≡ u = cc in subst (λ (t : List ℕ). Grown img text table t) same g
  grown_of (deep v i h e) q = absurd (let z : ◌≡◌ {A = ℕ} 0 1 = cc in omega arith)

  told_as : {o q : Out} {s : Subject} {p : ℕ} → q ≡ o → Told o s p → Told q s p
  told_as {s = s} {p = p} e r = subst (λ (o : Out). Told o s p) (sym e) r

  -- The next step, where the step before was answered.
  and_then :
      {o : Out} {s t : Subject} {p q : ℕ} (f : Evaluation → List ℕ → ℕ → Out)
      → Told o s p
      → ((x : Evaluation) (u : List ℕ) (d : ℕ) → Over img text table s p x → o ≡ out (answered x) u d → Told (f x u d) t q)
      → Told (bind o f) t q
  and_then f (refuses k u d e) more = refuses k u d (ap (λ (o : Out). bind o f) e)
  and_then f (answers x u d v e) more = told_as (ap (λ (o : Out). bind o f) e) (more x u d v e)

  -- What is told of each node by its number, with an allowance.
  abbrev Nodes : ℕ → Type 0
  Nodes l =
      (i p : ℕ) → i < nodes img → p ≤ length text → (t : List ℕ) → Grown img text table t → (c : ℕ)
      → Told (node_m img text l i p t c) (a_node (node img i)) p

  -- The table after an answered node.
  after :
      (l : ℕ) → l ≤ 4096 → (i p : ℕ) → i < nodes img → (h : p ≤ length text) → (t : List ℕ) → Grown img text table t → (c : ℕ)
      → {z : Evaluation} {u : List ℕ} {d : ℕ}
      → Over img text table (a_node (node img i)) p z
      → node_m img text l i p t c ≡ out (answered z) u d
      → Grown img text table u
  after l most i p r h t g c v e =
      grown_of
      (numbered img text table words short i p r (over_within img text table words short v h).nested (gives img text table words short v h) l most t g c)
      e

  in_text : {s : Subject} {p : ℕ} {z : Evaluation} → Over img text table s p z → p ≤ length text → p + z.length ≤ length text
  in_text v h = (over_within img text table words short v h).in_text

  module _ (l : ℕ) (most : l ≤ 4096) (ev : Nodes l) where
    -- After a round: whether it matched, whether its length is 0.
    round-told :
        (a p : ℕ) (r : a < nodes img) (h : p ≤ length text) (t : List ℕ) (g : Grown img text table t) (c : ℕ) (more : ℕ → List ℕ → ℕ → Out)
        → ((q : ℕ) → q ≤ length text → (u : List ℕ) → Grown img text table u → (d : ℕ) → Told (more q u d) (rounds_of a) q)
        → (x : Evaluation) (u : List ℕ) (d : ℕ)
        → Over img text table (a_node (node img a)) p x
        → node_m img text l a p t c ≡ out (answered x) u d
        → (m : Bool) → x.matched ≡ m → (still : Bool)
        → Told (after_round m still more p x u d) (rounds_of a) p
    unfolding after_round
    round-told a p r h t g c more rest x u d v e false m still = answers _ u d (ev_last_round v m refl) refl
    round-told a p r h t g c more rest x u d v e true m true = refuses Records u d refl
    round-told a p r h t g c more rest x u d v e true m false =
        and_then (λ y u d. out (answered (round_then x y)) u d)
        (rest (p + x.length) (in_text v h) u (after l most a p r h t g c v e) d)
        (λ y n k w q. answers (round_then x y) n k (ev_round v m w refl) refl)

    rounds-told :
        (fuel a p : ℕ) → a < nodes img → p ≤ length text → (t : List ℕ) → Grown img text table t → (c : ℕ)
        → Told (rounds_m fuel (node_m img text l) a p t c) (rounds_of a) p
    unfolding rounds_m
    rounds-told zero a p r h t g c = refuses Records t c refl
    rounds-told (suc f) a p r h t g c =
        and_then (λ x u d. after_round x.matched (eqb x.length 0) (rounds_m f (node_m img text l) a) p x u d) (ev a p r h t g c)
        (λ x u d v e.
        round-told a p r h t g c (rounds_m f (node_m img text l) a) (λ q k w b i. rounds-told f a q r k w b i) x u d v e x.matched refl
        (eqb x.length 0))

    -- After the first part of a sequence, and of a choice.
    first-told :
        (a b p : ℕ) (r : a < nodes img) (s : b < nodes img) (h : p ≤ length text) (t : List ℕ) (g : Grown img text table t) (c : ℕ)
        (x : Evaluation) (u : List ℕ) (d : ℕ)
        → Over img text table (a_node (node img a)) p x
        → node_m img text l a p t c ≡ out (answered x) u d
        → (m : Bool) → x.matched ≡ m
        → Told (after_first m (node_m img text l) b p x u d) (a_node (Sequence a b)) p
    unfolding after_first
    first-told a b p r s h t g c x u d v e false m = answers _ u d (ev_then_first_fails v m refl) refl
    first-told a b p r s h t g c x u d v e true m =
        and_then (λ y u d. out (answered (in_sequence x y)) u d)
        (ev b (p + x.length) s (in_text v h) u (after l most a p r h t g c v e) d)
        (λ y n k w q. answers (in_sequence x y) n k (ev_then v m w refl) refl)

    choice-told :
        (a b p : ℕ) (r : a < nodes img) (s : b < nodes img) (h : p ≤ length text) (t : List ℕ) (g : Grown img text table t) (c : ℕ)
        (x : Evaluation) (u : List ℕ) (d : ℕ)
        → Over img text table (a_node (node img a)) p x
        → node_m img text l a p t c ≡ out (answered x) u d
        → (m : Bool) → x.matched ≡ m
        → Told (after_choice m (node_m img text l) b p x u d) (a_node (Choice a b)) p
    unfolding after_choice
    choice-told a b p r s h t g c x u d v e true m = answers _ u d (ev_else_first v m refl) refl
    choice-told a b p r s h t g c x u d v e false m =
        and_then (λ y u d. out (answered (second_choice x y)) u d) (ev b p s h u (after l most a p r h t g c v e) d)
        (λ y n k w q. answers (second_choice x y) n k (ev_else_second v m w refl) refl)

    -- A held word that is met: what it says, or a refusal.
    met-told :
        (r p : ℕ) (word : ℕ) (t : List ℕ) (c : ℕ) (fine allowed : Bool)
        → (fine ≡ true → Over img text table (a_pair r) p (value_of word))
        → Told (met fine allowed word t c) (a_pair r) p
    unfolding met
    met-told r p word t c false allowed v = refuses Records t c refl
    met-told r p word t c true true v = answers (value_of word) t c (v refl) refl
    met-told r p word t c true false v = refuses Nesting t c refl

    -- A pair whose word in the table t is held.
    held-told :
        (r p : ℕ) (t : List ℕ) (c : ℕ)
        → is_held (word_at img t r p) ≡ true
        → (possible (word_at img t r p) p (length text) ≡ true → Over img text table (a_pair r) p (value_of (word_at img t r p)))
        → Told (rule_m img text (node_m img text l) l r p t c) (a_pair r) p
    unfolding pair_m looked
    held-told r p t c held v =
        told_as (ap (λ (b : Bool). looked b (rules img) (root img r) text (node_m img text l) l r p t c) held)
        (met-told r p (word_at img t r p) t c (possible (word_at img t r p) p (length text)) (leb (nesting_of (word_at img t r p)) l) v)

    -- A pair whose word is not held, in t and in the first table.
    unheld-told :
        (r p : ℕ) → r < rules img → p ≤ length text → (t : List ℕ) → Grown img text table t → (c : ℕ)
        → is_held (word_at img t r p) ≡ false
        → over img text table r p ≡ by_body
        → Told (rule_m img text (node_m img text l) l r p t c) (a_pair r) p
    unfolding pair_m looked body
    unheld-told r p lr h t g c unheld q =
        told_as (ap (λ (b : Bool). looked b (rules img) (root img r) text (node_m img text l) l r p t c) unheld)
        (and_then (λ x u d. out (answered x) (set u (slot_of (rules img) r p) (word_of x)) ((d + 1) % 2 ^ 64))
        (ev (root img r) p (root_in_range img words r lr) h t g c)
        (λ x u d v e. answers x (set u (slot_of (rules img) r p) (word_of x)) ((d + 1) % 2 ^ 64) (ev_body q v) refl))

    pair-told :
        (r p : ℕ) → r < rules img → p ≤ length text → (t : List ℕ) → Grown img text table t → (c : ℕ)
        → Told (rule_m img text (node_m img text l) l r p t c) (a_pair r) p
    pair-told r p lr h t g c = go (g.slots r p lr h)
      where
        go : Slot img text table t r p → Told (rule_m img text (node_m img text l) l r p t c) (a_pair r) p
        go (stored x f u n w) =
            let q = word-possible x p (length text) short (over_within img text table words short u h) n in
            let says : x ≡ value_of (word_at img t r p) = sym (ap value_of w ∙ value_back x q.0) in
            held-told r p t c (ap is_held w ∙ le-leb (2 ^ 63) (word_of x) (word_held x q.0))
            (λ k. subst (λ (z : Evaluation). Over img text table (a_pair r) p z) says u)
        go (kept w) = by (is_held (word_at img t r p)) refl
          where
            by : (b : Bool) → is_held (word_at img t r p) ≡ b → Told (rule_m img text (node_m img text l) l r p t c) (a_pair r) p
            by true e = held-told r p t c e (λ k. ev_record (recorded img text table t r p w e k))
            by false e = unheld-told r p lr h t g c e (unrecorded img text table t r p w e)

    kind-told :
        (m : Node) (p : ℕ) → Refers img m → p ≤ length text → (t : List ℕ) → Grown img text table t → (c : ℕ)
        → Told (kind_m text (node_m img text l) (rule_m img text (node_m img text l) l) m p t c) (a_node m) p
    unfolding kind_m
    kind-told Empty p r h t g c = answers _ t c (ev_empty refl) refl
    kind-told (Text m) p r h t g c = answers _ t c (ev_terminal refl) refl
    kind-told (Sequence a b) p r h t g c =
        and_then (λ x u d. after_first x.matched (node_m img text l) b p x u d) (ev a p r.0 h t g c)
        (λ x u d v e. first-told a b p r.0 r.1 h t g c x u d v e x.matched refl)
    kind-told (Choice a b) p r h t g c =
        and_then (λ x u d. after_choice x.matched (node_m img text l) b p x u d) (ev a p r.0 h t g c)
        (λ x u d v e. choice-told a b p r.0 r.1 h t g c x u d v e x.matched refl)
    kind-told (Star a) p r h t g c =
        and_then (λ x u d. out (answered (taken_over x)) u d) (rounds-told (suc (length text)) a p r h t g c)
        (λ x u d v e. answers (taken_over x) u d (ev_star v refl) refl)
    kind-told (NotPredicate a) p r h t g c =
        and_then (λ x u d. out (answered (negated x)) u d) (ev a p r h t g c)
        (λ x u d v e. answers (negated x) u d (ev_not v refl) refl)
    kind-told (Call s) p r h t g c =
        and_then (λ x u d. out (answered (taken_over x)) u d) (pair-told s p r h t g c)
        (λ x u d v e. answers (taken_over x) u d (ev_call v refl) refl)
    kind-told Unlawful p r h t g c = refuses Words t c refl

  nodes_told : (l : ℕ) → l ≤ 4096 → Nodes l
  unfolding node_m
  nodes_told zero most i p r h t g c = refuses Nesting t c refl
  nodes_told (suc l) most i p r h t g c =
      kind-told l (omega arith) (nodes_told l (omega arith)) (node img i) p (refers img words i r) h t g c

  pub only_over :
      (r p : ℕ) → r < rules img → p ≤ length text → (left : ℕ) → left ≤ 4096 → (t : List ℕ) → Grown img text table t
      → (c : ℕ) {z : Evaluation} {u : List ℕ} {d : ℕ}
      → rule_m img text (node_m img text left) left r p t c ≡ out (answered z) u d
      → Over img text table (a_pair r) p z
  only_over r p lr h left most t g c {z} {u} {d} e = go (pair-told left most (nodes_told left most) r p lr h t g c)
    where
      go : Told (rule_m img text (node_m img text left) left r p t c) (a_pair r) p → Over img text table (a_pair r) p z
      go (answers x v i w q) = let same : x ≡ z = cc in subst (λ (y : Evaluation). Over img text table (a_pair r) p y) same w
      go (refuses k v i q) = absurd (let a : ◌≡◌ {A = ℕ} 0 1 = cc in omega arith)
