-- Over any table the evaluator gives the evaluation in which each held pair takes what its word says, where the allowance covers its
-- nesting, and 14 where it does not; and the table has grown from the one lent. For every node and pair, and every
-- allowance of at most 4,096.
-- Assumes nothing.
use Rattle.grammar.specs.declared.refusal.Refusal.TheVariants.{Nesting}
use Prim.Native.Nat.{ℕ, zero, suc, ◌+◌, ◌%◌, ◌≤◌, ◌<◌, ◌^◌}
use native.Mathlib.Omega.{arith}
use mathlib.Core.Path.{◌≡◌, refl, sym, ap, ◌∙◌, subst}
use mathlib.Core.Bool.{Bool, true, false, true≢false}
use mathlib.Core.List.{List, [], ◌∷◌, ◌++◌}
use mathlib.Core.Logic.{⊎_elim}
use lib.ListN.{length, set}
use lib.Dec.{eqb, leb}
use borrow.Author.Tests.{ne_eqb, le-leb, lt-leb}
use native.Mathlib.Decide.{dec_le}
use Rattle.grammar.specs.declared.Evaluation.{Evaluation}
use Rattle.grammar.specs.Image.{node, nodes, root, rules, body}
use Rattle.grammar.specs.Questions.{Question4}
use Rattle.grammar.specs.Evaluates.{Subject, by_body, by_record, a_node, a_pair, rounds_of}
use Rattle.grammar.specs.Evaluates.{last_round, round_then}
use Rattle.grammar.specs.Evaluates.{ev_empty, ev_terminal, ev_then_first_fails, ev_then, ev_else_first, ev_else_second}
use Rattle.grammar.specs.Evaluates.{ev_star, ev_last_round, ev_round, ev_not, ev_call, ev_body, ev_record}
use Rattle.grammar.proofs.Terminals.{shape}
use Rattle.grammar.proofs.Determinism.{one, still}
use Rattle.grammar.proofs.References.{Refers, refers, root_in_range}
use Rattle.evaluation.specs.Within.{Within}
use Rattle.evaluation.proofs.Shape.{within}
use Rattle.records.specs.Words.{is_held, possible, IsPossible, nesting_of, value_of, word_of}
use Rattle.records.specs.Slots.{slot_of}
use Rattle.records.proofs.Codec.{InRange, value_back, word_held, length_back, examined_back, nesting_back, matched_back, spare_back}
use Rattle.records.proofs.Test.{says_possible, passes_test}
use Rattle.packrat.specs.Model.{answered, refused, Out, out, bind, after_first, after_choice, after_round, rounds_m}
use Rattle.packrat.specs.Model.{met, looked, pair_m, rule_m, kind_m, node_m}
use Rattle.packrat.specs.Over.{word_at, taken, over, Over}
use Rattle.evaluation.specs.Calls.{Pair, In, here, later, bodies_of}
use Rattle.evaluation.proofs.Pairs.{in_either, in_left, in_right, none_in}
use Rattle.evaluation.proofs.Bodies.{shallower}
use Rattle.packrat.specs.Stores.{Room}
use Rattle.packrat.proofs.Gain.{Gain, AllHeld, gain_none, gain_then, gain_among, gain_store, only_pair}
use Rattle.packrat.proofs.Grown.{Slot, kept, stored, Grown, grown_store}
use Rattle.packrat.proofs.Rules.{possible_within}

-- How a pair that is answered by its body, or by a record, stands in the table.
pub body_unheld : (h q : Bool) (w : ℕ) → taken h q w ≡ by_body → h ≡ false
body_unheld false q w e = refl
body_unheld true true w e = absurd (let z : ◌≡◌ {A = ℕ} 0 1 = cc in omega arith)
body_unheld true false w e = absurd (let z : ◌≡◌ {A = ℕ} 0 1 = cc in omega arith)

record_held : (h q : Bool) (w : ℕ) {x : Evaluation} → taken h q w ≡ by_record x → (h ≡ true) × (q ≡ true) × (x ≡ value_of w)
record_held false q w e = absurd (let z : ◌≡◌ {A = ℕ} 0 1 = cc in omega arith)
record_held true true w e = (refl, refl, cc)
record_held true false w e = absurd (let z : ◌≡◌ {A = ℕ} 0 1 = cc in omega arith)

-- An evaluation in its bounds has a possible word.
pub word-possible : (x : Evaluation) (p n : ℕ) → n ≤ 65535 → Within n p x → x.nesting ≤ 4096 → InRange x × IsPossible (word_of x) p n
word-possible x p n short w k =
    let r : InRange x =
    record { nesting_fits = omega arith; examined_fits = omega (arith, w.up_to_end); length_fits = omega (arith, w.in_text) } in
    let a = nesting_back x r in
    let b = examined_back x r in
    let c = length_back x r in (
      r,
      record {
        some_nesting = omega (arith, w.nested);
        most_nesting = omega arith;
        in_examined = omega (arith, w.in_examined);
        in_text = omega (arith, w.in_text);
        up_to_end = omega (arith, w.up_to_end);
        failure = λ f. c ∙ w.failure (sym (matched_back x r) ∙ f);
        zero_bits = spare_back x r;
      },
    )

module _ (img text table : List ℕ) (words : Question4 img) (short : length text ≤ 65535) where
  -- What a run from a table t and a count c gives of the evaluation z with an allowance, where the bodies of the pairs ps are
  -- evaluated in it.
  pub data Result (o : Out) (z : Evaluation) (left : ℕ) (t : List ℕ) (c : ℕ) (ps : List Pair) : Type 0 where
    fine :
        (u : List ℕ) (d : ℕ)
        → z.nesting ≤ left
        → Grown img text table u
        → Gain img text t u c d ps
        → o ≡ out (answered z) u d
        → Result o z left t c ps
    deep : (u : List ℕ) (d : ℕ) → left < z.nesting → o ≡ out (refused Nesting) u d → Result o z left t c ps

  -- The next step, which evaluates nothing.
  next :
      {o : Out} {x z : Evaluation} {l m : ℕ} {t : List ℕ} {c : ℕ} {ps : List Pair}
      → Result o x l t c ps
      → (f : Evaluation → List ℕ → ℕ → Out)
      → ((u : List ℕ) (d : ℕ) → f x u d ≡ out (answered z) u d)
      → (x.nesting ≤ l → z.nesting ≤ m)
      → (l < x.nesting → m < z.nesting)
      → Result (bind o f) z m t c ps
  next (fine u d h g k e) f more allowed too_deep = fine u d (allowed h) g k (ap (λ (o : Out). bind o f) e ∙ more u d)
  next (deep u d h e) f more allowed too_deep = deep u d (too_deep h) (ap (λ (o : Out). bind o f) e)

  -- The next step, which evaluates more.
  further :
      {o : Out} {x z : Evaluation} {l m : ℕ} {t : List ℕ} {c : ℕ} {ps qs : List Pair}
      → Result o x l t c ps
      → (f : Evaluation → List ℕ → ℕ → Out)
      → ((u : List ℕ) (d : ℕ) → x.nesting ≤ l → Grown img text table u → Result (f x u d) z m u d qs)
      → (l < x.nesting → m < z.nesting)
      → Result (bind o f) z m t c (ps ++ qs)
  further {o = o} {x = x} {z = z} {m = m} {t = t} {c = c} {ps = ps} {qs = qs} (fine u d h g k e) f more too_deep = go (more u d h g)
    where
      go : Result (f x u d) z m u d qs → Result (bind o f) z m t c (ps ++ qs)
      go (fine v i a b j q) = fine v i a b (gain_then img text k j) (ap (λ (o : Out). bind o f) e ∙ q)
      go (deep v i a q) = deep v i a (ap (λ (o : Out). bind o f) e ∙ q)
  further (deep u d h e) f more too_deep = deep u d (too_deep h) (ap (λ (o : Out). bind o f) e)

  same : {o p : Out} {z : Evaluation} {l : ℕ} {t : List ℕ} {c : ℕ} {ps : List Pair} → p ≡ o → Result o z l t c ps → Result p z l t c ps
  same {z = z} {l = l} {t = t} {c = c} {ps = ps} e r = subst (λ (o : Out). Result o z l t c ps) (sym e) r

  of : {o : Out} {y z : Evaluation} {l : ℕ} {t : List ℕ} {c : ℕ} {ps : List Pair} → z ≡ y → Result o y l t c ps → Result o z l t c ps
  of {o} {l = l} {t = t} {c = c} {ps = ps} e r = subst (λ (v : Evaluation). Result o v l t c ps) (sym e) r

  -- The evaluation over the table has its shape: a record that answers is possible.
  pub records_within : (r p : ℕ) (x : Evaluation) → p ≤ length text → over img text table r p ≡ by_record x → Within (length text) p x
  unfolding over
  records_within r p x h e =
      let d = record_held (is_held (word_at img table r p)) (possible (word_at img table r p) p (length text)) (word_at img table r p) e in
      subst (Within (length text) p) (sym d.2)
      (possible_within (word_at img table r p) p (length text) (says_possible (word_at img table r p) p (length text) d.1))

  pub over_within : {s : Subject} {p : ℕ} {z : Evaluation} → Over img text table s p z → p ≤ length text → Within (length text) p z
  over_within u h = within img text (over img text table) records_within u h

  -- A word that is met: its evaluation where the allowance covers it, else 14.
  meets :
      (w : ℕ) (p left : ℕ) (t : List ℕ) (c : ℕ) (ps : List Pair)
      → Grown img text table t
      → (Room img text t → AllHeld img t ps)
      → possible w p (length text) ≡ true
      → Result (met (possible w p (length text)) (leb (nesting_of w) left) w t c) (value_of w) left t c ps
  unfolding met value_of
  meets w p left t c ps g a e = go (dec_le (nesting_of w) left)
    where
      go : Dec (nesting_of w ≤ left) → Result (met (possible w p (length text)) (leb (nesting_of w) left) w t c) (value_of w) left t c ps
      go (yes k) =
          fine t c k g (gain_none img text t c ps a)
          (ap (λ (b : Bool). met b (leb (nesting_of w) left) w t c) e ∙ ap (λ (b : Bool). met true b w t c) (le-leb (nesting_of w) left k))
      go (no k) =
          let l : left < nesting_of w = omega (arith, k) in
          deep t c l (ap (λ (b : Bool). met b (leb (nesting_of w) left) w t c) e ∙ ap (λ (b : Bool). met true b w t c) (lt-leb (nesting_of w) left l))

  -- A pair whose word in the table t is held and possible.
  pair_met :
      (r p left : ℕ) (t : List ℕ) (c : ℕ) (ps : List Pair)
      → Grown img text table t
      → (Room img text t → AllHeld img t ps)
      → is_held (word_at img t r p) ≡ true
      → possible (word_at img t r p) p (length text) ≡ true
      → Result (rule_m img text (node_m img text left) left r p t c) (value_of (word_at img t r p)) left t c ps
  unfolding pair_m looked
  pair_met r p left t c ps g a h e =
      same (ap (λ (b : Bool). looked b (rules img) (root img r) text (node_m img text left) left r p t c) h) (meets (word_at img t r p) p left t c ps g a e)

  -- What is shown of each subject: for every allowance of at most 4,096, every table grown from the first and every count.
  abbrev pub Runs : (ℕ → List ℕ → ℕ → Out) → Evaluation → List Pair → Type 0
  Runs run z ps = (left : ℕ) → left ≤ 4096 → (t : List ℕ) → Grown img text table t → (c : ℕ) → Result (run left t c) z left t c ps

  abbrev pub Numbered : (i p : ℕ) → Evaluation → List Pair → Type 0
  Numbered i p x ps = Runs (λ left t c. node_m img text left i p t c) x ps

  abbrev pub Goal : Subject → ℕ → Evaluation → List Pair → Type 0
  Goal (a_node m) p z ps =
      Refers img m → (l : ℕ) → suc l ≤ 4096 → (t : List ℕ) → Grown img text table t → (c : ℕ)
      → Result (kind_m text (node_m img text l) (rule_m img text (node_m img text l) l) m p t c) z (suc l) t c ps
  Goal (a_pair r) p z ps = r < rules img → Runs (λ left t c. rule_m img text (node_m img text left) left r p t c) z ps
  Goal (rounds_of a) p z ps =
      a < nodes img → (fuel : ℕ) → length text < fuel + p → Runs (λ left t c. rounds_m fuel (node_m img text left) a p t c) z ps

  -- A node by its number, from the node.
  pub numbered : (i p : ℕ) {x : Evaluation} {ps : List Pair} → i < nodes img → 1 ≤ x.nesting → Goal (a_node (node img i)) p x ps → Numbered i p x ps
  unfolding node_m
  numbered i p l h k zero most t g c = deep t c (omega arith) refl
  numbered i p l h k (suc left) most t g c = k (refers img words i l) left most t g c

  last_of :
      (a p : ℕ) {x : Evaluation} {ps : List Pair}
      → p ≤ length text
      → x.matched ≡ false
      → Numbered a p x ps
      → (fuel : ℕ) → length text < fuel + p → Runs (λ left t c. rounds_m fuel (node_m img text left) a p t c) (last_round x) ps
  unfolding rounds_m after_round
  last_of a p h m k zero enough left most t g c = absurd (omega arith)
  last_of a p {x} h m k (suc f) enough left most t g c =
      next (k left most t g c) (λ x u d. after_round x.matched (eqb x.length 0) (rounds_m f (node_m img text left) a) p x u d)
      (λ u d. ap (λ (q : Bool). after_round q (eqb x.length 0) (rounds_m f (node_m img text left) a) p x u d) m)
      (λ j. j)
      (λ j. j)

  more_of :
      (a p : ℕ) {x y : Evaluation} {ps qs : List Pair}
      → p ≤ length text
      → x.matched ≡ true
      → (x.length ≡ 0 → ⊥)
      → Numbered a p x ps
      → ((fuel : ℕ) → length text < fuel + (p + x.length) → Runs (λ left t c. rounds_m fuel (node_m img text left) a (p + x.length) t c) y qs)
      → (fuel : ℕ) → length text < fuel + p → Runs (λ left t c. rounds_m fuel (node_m img text left) a p t c) (round_then x y) (ps ++ qs)
  unfolding rounds_m after_round
  more_of a p h m ne k rest zero enough left most t g c = absurd (omega arith)
  more_of a p {x} {y} h m ne k rest (suc f) enough left most t g c =
      further (k left most t g c) (λ x u d. after_round x.matched (eqb x.length 0) (rounds_m f (node_m img text left) a) p x u d)
      (λ u d j g.
      same
      (ap (λ (q : Bool). after_round q (eqb x.length 0) (rounds_m f (node_m img text left) a) p x u d) m
      ∙ ap (λ (q : Bool). after_round true q (rounds_m f (node_m img text left) a) p x u d) (ne_eqb x.length 0 ne))
      (next (rest f (omega (arith, ne)) left most u g d) _ (λ u d. refl) (λ i. omega arith) (λ i. omega arith)))
      (λ j. omega arith)

  -- A pair that its body answers: the body is evaluated and stored, or an earlier store is met.
  body_of :
      (r p : ℕ) {z : Evaluation} {ps : List Pair}
      → r < rules img
      → p ≤ length text
      → is_held (word_at img table r p) ≡ false
      → (v : Over img text table (a_pair r) p z)
      → bodies_of v ≡ record { rule = r; position = p } ∷ ps
      → (In (record { rule = r; position = p }) ps → ⊥)
      → Numbered (root img r) p z ps
      → Runs (λ left t c. rule_m img text (node_m img text left) left r p t c) z (record { rule = r; position = p } ∷ ps)
  unfolding pair_m looked
  body_of r p {z} {ps} l h e v bodies not-inside k left most t g c = go (g.slots r p l h)
    where
      pair : Pair
      pair = record { rule = r; position = p }

      first_of : {x : Pair} → In x (pair ∷ []) → In x (pair ∷ ps)
      first_of here = here
      first_of (later y) = later (absurd (none_in y))

      last-of-all : {x : Pair} → In x (pair ∷ ps) → In x (ps ++ pair ∷ [])
      last-of-all here = in_right ps here
      last-of-all (later y) = in_left (pair ∷ []) y

      all_of : (t : List ℕ) → AllHeld img t (pair ∷ ps) → AllHeld img t (bodies_of v)
      all_of t a = subst (AllHeld img t) (sym bodies) a

      after :
          is_held (word_at img t r p) ≡ false → Result (node_m img text left (root img r) p t c) z left t c ps
          → Result (looked false (rules img) (root img r) text (node_m img text left) left r p t c) z left t c (pair ∷ ps)
      after unheld (deep u d j q) = deep u d j (ap (λ (o : Out). bind o (λ x u d. out (answered x) (set u (slot_of (rules img) r p) (word_of x)) ((d + 1) % 2 ^ 64))) q)
      after unheld (fine u d j b i q) =
          let word = word-possible z p (length text) short (over_within v h) (omega arith) in
          let free : is_held (word_at img u r p) ≡ false =
          ⊎_elim (λ x. ap is_held x ∙ unheld) (λ x. absurd (not-inside x)) (only_pair img text i r p l) in
          let held = le-leb (2 ^ 63) (word_of z) (word_held z word.0) in
          let gained =
          gain_among img text (pair ∷ ps)
          (λ x a. ⊎_elim (λ y. later y) (λ y. first_of y) (in_either ps (pair ∷ []) a))
          (λ x a. last-of-all a)
          (gain_then img text i (gain_store img text u d r p (word_of z) l h free held)) in
          fine (set u (slot_of (rules img) r p) (word_of z)) ((d + 1) % 2 ^ 64) j
          (grown_store b l h e v (omega arith) held (λ m. all_of (set u (slot_of (rules img) r p) (word_of z)) (gained.all (rw g.as_long m))))
          gained
          (ap (λ (o : Out). bind o (λ x u d. out (answered x) (set u (slot_of (rules img) r p) (word_of x)) ((d + 1) % 2 ^ 64))) q)

      go : Slot img text table t r p → Result (rule_m img text (node_m img text left) left r p t c) z left t c (pair ∷ ps)
      go (kept w) =
          same (ap (λ (b : Bool). looked b (rules img) (root img r) text (node_m img text left) left r p t c) (ap is_held w ∙ e)) (after (ap is_held w ∙ e) (k left most t g c))
      go (stored x f u n w) =
          let q = word-possible x p (length text) short (over_within u h) n in
          let says : value_of (word_at img t r p) ≡ z = ap value_of w ∙ value_back x q.0 ∙ one img text (over img text table) u v in
          let held = ap is_held w ∙ le-leb (2 ^ 63) (word_of x) (word_held x q.0) in
          of (sym says)
          (pair_met r p left t c (pair ∷ ps) g
          (λ m. subst (AllHeld img t) bodies (g.inside (rw (sym g.as_long) m) r p l h e held z v))
          held
          (ap (λ (k : ℕ). possible k p (length text)) w ∙ passes_test (word_of x) p (length text) q.1))

  record_of :
      (r p : ℕ) {z : Evaluation}
      → r < rules img
      → p ≤ length text
      → is_held (word_at img table r p) ≡ true
      → possible (word_at img table r p) p (length text) ≡ true
      → z ≡ value_of (word_at img table r p)
      → Runs (λ left t c. rule_m img text (node_m img text left) left r p t c) z []
  record_of r p {z} l h e d s left most t g c = go (g.slots r p l h)
    where
      go : Slot img text table t r p → Result (rule_m img text (node_m img text left) left r p t c) z left t c []
      go (kept w) =
          of (s ∙ ap value_of (sym w))
          (pair_met r p left t c [] g (λ m x i. absurd (none_in i)) (ap is_held w ∙ e) (ap (λ (k : ℕ). possible k p (length text)) w ∙ d))
      go (stored x f u n w) = absurd (true≢false (sym e ∙ f))

  -- A pair is not evaluated inside its own body.
  not_in_body :
      {r p : ℕ} {z : Evaluation} (q : over img text table r p ≡ by_body) (u : Over img text table (a_node (body img r)) p z)
      → In (record { rule = r; position = p }) (bodies_of u)
      → ⊥
  not_in_body q u i =
      let s = shallower u i in
      let n = ap (λ (v : Evaluation). v.nesting) (one img text (over img text table) (ev_body s.by s.inner) (ev_body q u)) in
      omega (arith, s.below)

  pub gives : {s : Subject} {p : ℕ} {z : Evaluation} (u : Over img text table s p z) → p ≤ length text → Goal s p z (bodies_of u)
  unfolding kind_m after_first after_choice body over bodies_of
  gives (ev_empty e) h = λ r l most t g c. of e (fine t c (omega arith) g (gain_none img text t c [] (λ m x i. absurd (none_in i))) refl)
  gives {p = p} (ev_terminal {t = m} e) h = λ r l most t g c.
      of e (fine t c (omega (arith, (shape m text p h).flat)) g (gain_none img text t c [] (λ m x i. absurd (none_in i))) refl)
  gives {p = p} (ev_then_first_fails {a} {b} {x = x} u m e) h = λ r l most t g c.
      of e
      (next (numbered a p r.0 (over_within u h).nested (gives u h) l (omega arith) t g c) (λ x u d. after_first x.matched (node_m img text l) b p x u d)
      (λ u d. ap (λ (q : Bool). after_first q (node_m img text l) b p x u d) m)
      (λ k. omega arith)
      (λ k. omega arith))
  gives {p = p} (ev_then {a} {b} {x = x} {y = y} u m v e) h = λ r l most t g c.
      let w = over_within u h in
      of e
      (further (numbered a p r.0 w.nested (gives u h) l (omega arith) t g c) (λ x u d. after_first x.matched (node_m img text l) b p x u d)
      (λ n d k g.
      same (ap (λ (q : Bool). after_first q (node_m img text l) b p x n d) m)
      (next (numbered b (p + x.length) r.1 (over_within v w.in_text).nested (gives v w.in_text) l (omega arith) n g d) _
      (λ n d. refl)
      (λ j. omega arith)
      (λ j. omega arith)))
      (λ k. omega arith))
  gives {p = p} (ev_else_first {a} {b} {x = x} u m e) h = λ r l most t g c.
      of e
      (next (numbered a p r.0 (over_within u h).nested (gives u h) l (omega arith) t g c) (λ x u d. after_choice x.matched (node_m img text l) b p x u d)
      (λ u d. ap (λ (q : Bool). after_choice q (node_m img text l) b p x u d) m)
      (λ k. omega arith)
      (λ k. omega arith))
  gives {p = p} (ev_else_second {a} {b} {x = x} {y = y} u m v e) h = λ r l most t g c.
      of e
      (further (numbered a p r.0 (over_within u h).nested (gives u h) l (omega arith) t g c) (λ x u d. after_choice x.matched (node_m img text l) b p x u d)
      (λ n d k g.
      same (ap (λ (q : Bool). after_choice q (node_m img text l) b p x n d) m)
      (next (numbered b p r.1 (over_within v h).nested (gives v h) l (omega arith) n g d) _ (λ n d. refl) (λ j. omega arith) (λ j. omega arith)))
      (λ k. omega arith))
  gives (ev_star {a} u e) h = λ r l most t g c.
      of e (next (gives u h r (suc (length text)) (omega arith) l (omega arith) t g c) _ (λ n d. refl) (λ k. omega arith) (λ k. omega arith))
  gives {p = p} (ev_last_round {a} {x = x} u m e) h = λ r fuel k left most t g c.
      of e (last_of a p h m (numbered a p r (over_within u h).nested (gives u h)) fuel k left most t g c)
  gives {p = p} (ev_round {a} {x = x} {y = y} u m v e) h = λ r fuel k left most t g c.
      let w = over_within u h in
      of e
      (more_of a p h m (λ z. still img text (over img text table) u m z (ev_round u m v e))
      (numbered a p r w.nested (gives u h))
      (gives v w.in_text r)
      fuel
      k
      left
      most
      t
      g
      c)
  gives {p = p} (ev_not {a} u e) h = λ r l most t g c.
      of e
      (next (numbered a p r (over_within u h).nested (gives u h) l (omega arith) t g c) _ (λ n d. refl) (λ k. omega arith) (λ k. omega arith))
  gives (ev_call u e) h = λ r l most t g c.
      of e (next (gives u h r l (omega arith) t g c) _ (λ n d. refl) (λ k. omega arith) (λ k. omega arith))
  gives {p = p} (ev_body {r} q u) h = λ l.
      body_of r p l h
      (body_unheld (is_held (word_at img table r p)) (possible (word_at img table r p) p (length text)) (word_at img table r p) q)
      (ev_body q u)
      refl
      (not_in_body q u)
      (numbered (root img r) p (root_in_range img words r l) (over_within u h).nested (gives u h))
  gives {p = p} (ev_record {r} q) h = λ l.
      let d = record_held (is_held (word_at img table r p)) (possible (word_at img table r p) p (length text)) (word_at img table r p) q in
      record_of r p l h d.0 d.1 d.2

  -- A pair over the table, for every allowance of at most 4,096.
  pub pair_over :
      (r p : ℕ) {z : Evaluation} (u : Over img text table (a_pair r) p z)
      → r < rules img
      → p ≤ length text
      → (left : ℕ) → left ≤ 4096 → (t : List ℕ) → Grown img text table t → (c : ℕ)
      → Result (rule_m img text (node_m img text left) left r p t c) z left t c (bodies_of u)
  pair_over r p u l h = gives u h l
