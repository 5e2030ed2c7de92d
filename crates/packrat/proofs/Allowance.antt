-- The allowance limits the nesting exactly, for an arbitrary allowance and in both directions: without records a pair is answered with its evaluation
-- exactly where the allowance covers its nesting, and otherwise gets 14. Assumes nothing.
--     pair_allowed    for every pair at a position of the text
use Rattle.grammar.specs.declared.refusal.Refusal.TheVariants.{Nesting}
use Prim.Native.Nat.{ℕ, zero, suc, ◌+◌, ◌%◌, ◌^◌, ◌≤◌, ◌<◌}
use native.Mathlib.Omega.{arith}
use mathlib.Core.Path.{◌≡◌, refl, sym, ap, ◌∙◌}
use mathlib.Core.Bool.{Bool, true, false}
use mathlib.Core.List.{List, []}
use lib.ListN.{length, set}
use lib.Dec.{eqb}
use borrow.Author.Tests.{ne_eqb}
use Rattle.grammar.specs.declared.Evaluation.{Evaluation}
use Rattle.grammar.specs.Image.{node, rules, root, body}
use Rattle.grammar.specs.Evaluates.{Fresh, Subject, bodies_only, a_node, a_pair, rounds_of}
use Rattle.grammar.specs.Evaluates.{in_sequence, taken_over, second_choice, last_round, round_then, negated}
use Rattle.grammar.specs.Evaluates.{ev_empty, ev_terminal, ev_then_first_fails, ev_then, ev_else_first, ev_else_second}
use Rattle.grammar.specs.Evaluates.{ev_star, ev_last_round, ev_round, ev_not, ev_call, ev_body, ev_record}
use Rattle.grammar.proofs.Determinism.{still, no_record}
use Rattle.grammar.proofs.Terminals.{shape}
use Rattle.evaluation.proofs.Plain.{fresh_within}
use Rattle.records.specs.Words.{word_of}
use Rattle.records.specs.Slots.{slot_of}
use Rattle.packrat.specs.Model.{answered, refused, Out, out, Evaluator, bind, made, after_first, after_choice, after_round, rounds_m}
use Rattle.packrat.specs.Model.{looked, pair_m, rule_m, kind_m, node_m}
use Rattle.packrat.specs.Allowance.{Ends, covered, too_deep}

abbrev Next : Type 0
Next = Evaluation → List ℕ → ℕ → Out

-- What a step makes of an answer, and of a refusal.
step : {o : Out} {x : Evaluation} {c : ℕ} (f : Next) → o ≡ out (answered x) [] c → bind o f ≡ f x [] c
step f e = ap (λ (o : Out). bind o f) e

stop : {o : Out} {c : ℕ} (f : Next) → o ≡ out (refused Nesting) [] c → bind o f ≡ out (refused Nesting) [] c
stop f e = ap (λ (o : Out). bind o f) e

-- One evaluation inside.
one_inside :
    {l k : ℕ} {x z : Evaluation} {o : Out} (f : Next) (counted : ℕ → ℕ)
    → ((c : ℕ) → f x [] c ≡ out (answered z) [] (counted c))
    → (x.nesting ≤ l → z.nesting ≤ k) → (l < x.nesting → k < z.nesting)
    → Ends l x o → Ends k z (bind o f)
one_inside f counted g fits deep (covered h c e) = covered (fits h) (counted c) (step f e ∙ g c)
one_inside f counted g fits deep (too_deep h c e) = too_deep (deep h) c (stop f e)

-- Two, the second after the first.
two_inside :
    {l k : ℕ} {x y z : Evaluation} {o : Out} (f : Next) (g : Evaluation → Evaluation) (p : ℕ → Out)
    → ((c : ℕ) → f x [] c ≡ made g (p c)) → z ≡ g y
    → (x.nesting ≤ l → y.nesting ≤ l → z.nesting ≤ k) → (l < x.nesting → k < z.nesting) → (l < y.nesting → k < z.nesting)
    → Ends l x o → ((c : ℕ) → Ends l y (p c)) → Ends k z (bind o f)
two_inside f g p s e fits first second (too_deep h c i) r = too_deep (first h) c (stop f i)
two_inside {l} {k} {y = y} {z = z} {o = o} f g p s e fits first second (covered h c i) r = go (r c)
  where
    go : Ends l y (p c) → Ends k z (bind o f)
    go (covered j d u) =
        covered (fits h j) d (step f i ∙ s c ∙ step (λ x t c. out (answered (g x)) t c) u ∙ ap (λ (w : Evaluation). out (answered w) [] d) (sym e))
    go (too_deep j d u) = too_deep (second j) d (step f i ∙ s c ∙ stop (λ x t c. out (answered (g x)) t c) u)

-- Over no table a pair is its rule's body, and nothing is stored.
body_allowed :
    (R ρ : ℕ) (text : List ℕ) (ev : Evaluator) (left r at c : ℕ) {l : ℕ} {z : Evaluation}
    → Ends l z (ev ρ at [] c)
    → Ends l z (pair_m R ρ text ev left r at [] c)
unfolding pair_m looked
body_allowed R ρ text ev left r at c e =
    one_inside (λ x u d. out (answered x) (set u (slot_of R r at) (word_of x)) ((d + 1) % 2 ^ 64)) (λ d. (d + 1) % 2 ^ 64) (λ d. refl) (λ h. h) (λ h. h) e

module _ (img text : List ℕ) where
  abbrev ev : ℕ → Evaluator
  ev l = node_m img text l

  abbrev Claim : Subject → ℕ → Evaluation → Type 0
  Claim (a_node m) p z = (l c : ℕ) → Ends (suc l) z (kind_m text (ev l) (rule_m img text (ev l) l) m p [] c)
  Claim (a_pair r) p z = (l c : ℕ) → Ends l z (rule_m img text (ev l) l r p [] c)
  Claim (rounds_of a) p z = (fuel : ℕ) → length text < fuel + p → (l c : ℕ) → Ends l z (rounds_m fuel (ev l) a p [] c)

  -- A node by its number.
  by_number :
      (i p : ℕ) {x : Evaluation} → Fresh img text (a_node (node img i)) p x → p ≤ length text → Claim (a_node (node img i)) p x
      → (l c : ℕ) → Ends l x (node_m img text l i p [] c)
  unfolding node_m
  by_number i p u h f zero c = too_deep (omega (arith, (fresh_within u h).nested)) c refl
  by_number i p u h f (suc l) c = f l c

  -- The round that fails, and a round with those after it.
  last_allowed :
      (a p : ℕ) {x z : Evaluation} → x.matched ≡ false → z ≡ last_round x
      → ((l c : ℕ) → Ends l x (node_m img text l a p [] c))
      → (fuel : ℕ) → length text < fuel + p → p ≤ length text → (l c : ℕ) → Ends l z (rounds_m fuel (ev l) a p [] c)
  unfolding rounds_m after_round
  last_allowed a p m e f zero enough h l c = absurd (omega arith)
  last_allowed a p {x} m e f (suc k) enough h l c =
      let n = ap (λ (w : Evaluation). w.nesting) e in
      one_inside (λ x t d. after_round x.matched (eqb x.length 0) (rounds_m k (ev l) a) p x t d) (λ d. d)
      (λ d.
      ap (λ (q : Bool). after_round q (eqb x.length 0) (rounds_m k (ev l) a) p x [] d) m
      ∙ ap (λ (w : Evaluation). out (answered w) [] d) (sym e))
      (λ g. omega arith) (λ g. omega arith) (f l c)

  more_allowed :
      (a p : ℕ) {x y z : Evaluation} → x.matched ≡ true → (x.length ≡ 0 → ⊥) → z ≡ round_then x y
      → ((l c : ℕ) → Ends l x (node_m img text l a p [] c))
      → Claim (rounds_of a) (p + x.length) y
      → (fuel : ℕ) → length text < fuel + p → p ≤ length text → (l c : ℕ) → Ends l z (rounds_m fuel (ev l) a p [] c)
  unfolding rounds_m after_round
  more_allowed a p m ne e f rest zero enough h l c = absurd (omega arith)
  more_allowed a p {x} m ne e f rest (suc k) enough h l c =
      let n = ap (λ (w : Evaluation). w.nesting) e in
      two_inside (λ x t d. after_round x.matched (eqb x.length 0) (rounds_m k (ev l) a) p x t d) (round_then x)
      (λ d. rounds_m k (ev l) a (p + x.length) [] d)
      (λ d.
      ap (λ (q : Bool). after_round q (eqb x.length 0) (rounds_m k (ev l) a) p x [] d) m
      ∙ ap (λ (q : Bool). after_round true q (rounds_m k (ev l) a) p x [] d) (ne_eqb x.length 0 ne))
      e
      (λ g j. omega arith) (λ g. omega arith) (λ g. omega arith) (f l c) (λ d. rest k (omega (arith, ne)) l d)

  allowed : {s : Subject} {p : ℕ} {z : Evaluation} → Fresh img text s p z → p ≤ length text → Claim s p z
  unfolding kind_m after_first after_choice body
  allowed (ev_empty e) h = λ l c.
      let n = ap (λ (w : Evaluation). w.nesting) e in
      covered (omega arith) c (ap (λ (w : Evaluation). out (answered w) [] c) (sym e))
  allowed {p = p} (ev_terminal {t} e) h = λ l c.
      let n = ap (λ (w : Evaluation). w.nesting) e ∙ (shape t text p h).flat in
      covered (omega arith) c (ap (λ (w : Evaluation). out (answered w) [] c) (sym e))
  allowed {p = p} (ev_then_first_fails {a} {b} {x = x} u m e) h = λ l c.
      let n = ap (λ (w : Evaluation). w.nesting) e in
      one_inside (λ x t d. after_first x.matched (ev l) b p x t d) (λ d. d)
      (λ d. ap (λ (q : Bool). after_first q (ev l) b p x [] d) m ∙ ap (λ (w : Evaluation). out (answered w) [] d) (sym e))
      (λ g. omega arith) (λ g. omega arith)
      (by_number a p u h (allowed u h) l c)
  allowed {p = p} (ev_then {a} {b} {x = x} u m v e) h = λ l c.
      let n = ap (λ (w : Evaluation). w.nesting) e in
      let i = (fresh_within u h).in_text in
      two_inside (λ x t d. after_first x.matched (ev l) b p x t d) (in_sequence x) (λ d. node_m img text l b (p + x.length) [] d)
      (λ d. ap (λ (q : Bool). after_first q (ev l) b p x [] d) m) e
      (λ g j. omega arith) (λ g. omega arith) (λ g. omega arith)
      (by_number a p u h (allowed u h) l c)
      (by_number b (p + x.length) v i (allowed v i) l)
  allowed {p = p} (ev_else_first {a} {b} {x = x} u m e) h = λ l c.
      let n = ap (λ (w : Evaluation). w.nesting) e in
      one_inside (λ x t d. after_choice x.matched (ev l) b p x t d) (λ d. d)
      (λ d. ap (λ (q : Bool). after_choice q (ev l) b p x [] d) m ∙ ap (λ (w : Evaluation). out (answered w) [] d) (sym e))
      (λ g. omega arith) (λ g. omega arith)
      (by_number a p u h (allowed u h) l c)
  allowed {p = p} (ev_else_second {a} {b} {x = x} u m v e) h = λ l c.
      let n = ap (λ (w : Evaluation). w.nesting) e in
      two_inside (λ x t d. after_choice x.matched (ev l) b p x t d) (second_choice x) (λ d. node_m img text l b p [] d)
      (λ d. ap (λ (q : Bool). after_choice q (ev l) b p x [] d) m) e
      (λ g j. omega arith) (λ g. omega arith) (λ g. omega arith)
      (by_number a p u h (allowed u h) l c)
      (by_number b p v h (allowed v h) l)
  allowed {p = p} (ev_star {a} u e) h = λ l c.
      let n = ap (λ (w : Evaluation). w.nesting) e in
      one_inside (λ x t d. out (answered (taken_over x)) t d) (λ d. d) (λ d. ap (λ (w : Evaluation). out (answered w) [] d) (sym e))
      (λ g. omega arith) (λ g. omega arith)
      (allowed u h (suc (length text)) (omega arith) l c)
  allowed {p = p} (ev_last_round {a} u m e) h = λ fuel enough l c. last_allowed a p m e (by_number a p u h (allowed u h)) fuel enough h l c
  allowed {p = p} (ev_round {a} u m v e) h = λ fuel enough l c.
      more_allowed a p m (λ q. still img text bodies_only u m q (ev_round u m v e)) e (by_number a p u h (allowed u h))
      (allowed v (fresh_within u h).in_text) fuel enough h l c
  allowed {p = p} (ev_not {a} u e) h = λ l c.
      let n = ap (λ (w : Evaluation). w.nesting) e in
      one_inside (λ x t d. out (answered (negated x)) t d) (λ d. d) (λ d. ap (λ (w : Evaluation). out (answered w) [] d) (sym e))
      (λ g. omega arith) (λ g. omega arith)
      (by_number a p u h (allowed u h) l c)
  allowed (ev_call u e) h = λ l c.
      let n = ap (λ (w : Evaluation). w.nesting) e in
      one_inside (λ x t d. out (answered (taken_over x)) t d) (λ d. d) (λ d. ap (λ (w : Evaluation). out (answered w) [] d) (sym e))
      (λ g. omega arith) (λ g. omega arith)
      (allowed u h l c)
  allowed {p = p} (ev_body {r} q u) h = λ l c.
      body_allowed (rules img) (root img r) text (ev l) l r p c (by_number (root img r) p u h (allowed u h) l c)
  allowed (ev_record q) h = absurd (no_record q)

  pub pair_allowed :
      {r p : ℕ} {z : Evaluation} → Fresh img text (a_pair r) p z → p ≤ length text → (left count : ℕ)
      → Ends left z (rule_m img text (node_m img text left) left r p [] count)
  pair_allowed u h = allowed u h
