-- Whatever the table holds and whatever the allowance, a run of a pair of the image and the text changes only words in slots of pairs
-- of the text, answers within the text, and is refused with 12 or 14 if at all. Assumes nothing.
--     pair_framed       every run
--     pair_impossible   a held word that is not possible is refused with 12, and nothing changes
use Rattle.grammar.specs.declared.refusal.Refusal.TheVariants.{Records, Nesting}
use Prim.Native.Nat.{ℕ, zero, suc, ◌+◌, ◌%◌, ◌≤◌, ◌<◌, ◌^◌}
use native.Mathlib.Omega.{arith}
use mathlib.Core.Path.{◌≡◌, refl, ap, ◌∙◌}
use mathlib.Core.Bool.{Bool, true, false}
use mathlib.Core.List.{List}
use mathlib.Core.Logic.{inl, inr}
use lib.ListN.{length, get_or, set, length-set}
use lib.Seq.{get_or-set_other}
use lib.Dec.{eqb, leb}
use Rattle.grammar.specs.declared.Evaluation.{Evaluation}
use Rattle.grammar.specs.Image.{rules, nodes, root, fields_at, node}
use Rattle.grammar.specs.declared.node.Node.{Node}
use Rattle.grammar.specs.declared.node.Node.TheVariants.{Empty, Text, Sequence, Choice, Star, NotPredicate, Call, Unlawful}
use Rattle.grammar.specs.Questions.{Question4}
use Rattle.grammar.specs.Evaluates.{in_sequence, taken_over, second_choice, round_then, negated}
use Rattle.grammar.proofs.Nodes.{kind_of_unlawful}
use Rattle.grammar.proofs.References.{Refers, refers, root_in_range}
use Rattle.evaluation.specs.Within.{Within}
use Rattle.evaluation.proofs.Shape.{empty_within, failed_within, taken_within, negated_within, last_within, second_within, terminal_within}
use Rattle.evaluation.proofs.Shape.{round_within, then_within}
use Rattle.records.specs.Words.{is_held, possible, nesting_of, word_of}
use Rattle.records.specs.Slots.{slot_of}
use Rattle.records.proofs.Test.{says_possible}
use Rattle.packrat.specs.Model.{Answer, answered, refused, Out, out, Evaluator, bind, made, after_first, after_choice, after_round}
use Rattle.packrat.specs.Model.{rounds_m, met, looked, pair_m, rule_m, kind_m, node_m}
use Rattle.packrat.specs.Over.{word_at}
use Rattle.packrat.specs.Framed.{Fits, Framed}
use Rattle.packrat.proofs.Rules.{possible_within}

-- No node of a lawful image is unlawful.
lawful_node : (img : List ℕ) → Question4 img → (n : ℕ) → n < nodes img → node img n ≡ Unlawful → ⊥
lawful_node img words n l u = omega (arith, kind_of_unlawful (fields_at img n) u, (words.node_words n l).known_kind)

module _ (img text : List ℕ) where
  -- A run that changes nothing.
  still : (t : List ℕ) (p c : ℕ) (a : Answer) → Fits (length text) p a → Framed img text t p (out a t c)
  still t p c a f = record { answer = a; after = t; counted = c; is = refl; fits = f; as_long = refl; kept = λ j n. refl }

  -- The next step, where the step before was answered.
  next :
      {p q : ℕ} {t : List ℕ} {o : Out}
      → Framed img text t p o
      → (f : Evaluation → List ℕ → ℕ → Out)
      → ((x : Evaluation) (u : List ℕ) (d : ℕ) → Within (length text) p x → Framed img text u q (f x u d))
      → Framed img text t q (bind o f)
  next {p} {q} {t} {o} g f more = go g.answer g.is g.fits
    where
      go : (a : Answer) → o ≡ out a g.after g.counted → Fits (length text) p a → Framed img text t q (bind o f)
      go (answered x) e w =
          let h = more x g.after g.counted w in
          record {
            answer = h.answer;
            after = h.after;
            counted = h.counted;
            is = ap (λ (o : Out). bind o f) e ∙ h.is;
            fits = h.fits;
            as_long = h.as_long ∙ g.as_long;
            kept = λ j n. h.kept j n ∙ g.kept j n;
          }
      go (refused k) e w =
          record {
            answer = refused k;
            after = g.after;
            counted = g.counted;
            is = ap (λ (o : Out). bind o f) e;
            fits = w;
            as_long = g.as_long;
            kept = g.kept;
          }

  -- The next step, which only makes another evaluation of it.
  remade :
      {p q : ℕ} {t : List ℕ} {o : Out}
      → Framed img text t p o
      → (f : Evaluation → Evaluation)
      → ((x : Evaluation) → Within (length text) p x → Within (length text) q (f x))
      → Framed img text t q (made f o)
  remade {q = q} g f more = next g (λ x u d. out (answered (f x)) u d) (λ x u d w. still u q d (answered (f x)) (more x w))

  -- Every run of an evaluator, for numbers below a limit.
  abbrev All : ℕ → Evaluator → Type 0
  All limit ev = (i p : ℕ) → i < limit → p ≤ length text → (t : List ℕ) (c : ℕ) → Framed img text t p (ev i p t c)

  module _ {ev : Evaluator} (all : All (nodes img) ev) where
    then-framed :
        (m : Bool) (b p : ℕ) (x : Evaluation) → b < nodes img → Within (length text) p x → (t : List ℕ) (c : ℕ)
        → Framed img text t p (after_first m ev b p x t c)
    unfolding after_first
    then-framed true b p x l w t c =
        remade (all b (p + x.length) l w.in_text t c) (in_sequence x) (λ y v. then_within w v)
    then-framed false b p x l w t c = still t p c _ (failed_within w)

    else-framed :
        (m : Bool) (b p : ℕ) (x : Evaluation) → b < nodes img → p ≤ length text → Within (length text) p x → (t : List ℕ) (c : ℕ)
        → Framed img text t p (after_choice m ev b p x t c)
    unfolding after_choice
    else-framed true b p x l h w t c = still t p c _ (taken_within w)
    else-framed false b p x l h w t c = remade (all b p l h t c) (second_choice x) (λ y v. second_within w v)

    round-framed :
        (m z : Bool) (more : ℕ → List ℕ → ℕ → Out) (p : ℕ) (x : Evaluation) → Within (length text) p x
        → ((t : List ℕ) (c : ℕ) → Framed img text t (p + x.length) (more (p + x.length) t c))
        → (t : List ℕ) (c : ℕ) → Framed img text t p (after_round m z more p x t c)
    unfolding after_round
    round-framed false z more p x w rest t c = still t p c _ (last_within w)
    round-framed true true more p x w rest t c = still t p c _ (search (last_within, inl, refl))
    round-framed true false more p x w rest t c = remade (rest t c) (round_then x) (λ y v. round_within w v)

    rounds-framed : (fuel a p : ℕ) → a < nodes img → p ≤ length text → (t : List ℕ) (c : ℕ) → Framed img text t p (rounds_m fuel ev a p t c)
    unfolding rounds_m
    rounds-framed zero a p l h t c = still t p c (refused Records) (inl refl)
    rounds-framed (suc f) a p l h t c =
        next (all a p l h t c) (λ x u d. after_round x.matched (eqb x.length 0) (rounds_m f ev a) p x u d)
        (λ x u d w.
        round-framed x.matched (eqb x.length 0) (rounds_m f ev a) p x w
        (λ t c. rounds-framed f a (p + x.length) l w.in_text t c)
        u
        d)

    kind-framed :
        {called : Evaluator} → All (rules img) called → (m : Node) → Refers img m → (m ≡ Unlawful → ⊥)
        → (p : ℕ) → p ≤ length text → (t : List ℕ) (c : ℕ) → Framed img text t p (kind_m text ev called m p t c)
    unfolding kind_m
    kind-framed calls Empty r n p h t c = still t p c _ (empty_within h)
    kind-framed calls (Text m) r n p h t c = still t p c _ (terminal_within m text p h)
    kind-framed calls (Sequence a b) r n p h t c =
        next (all a p r.0 h t c) (λ x u d. after_first x.matched ev b p x u d)
        (λ x u d w. then-framed x.matched b p x r.1 w u d)
    kind-framed calls (Choice a b) r n p h t c =
        next (all a p r.0 h t c) (λ x u d. after_choice x.matched ev b p x u d)
        (λ x u d w. else-framed x.matched b p x r.1 h w u d)
    kind-framed calls (Star a) r n p h t c =
        remade (rounds-framed (suc (length text)) a p r h t c) taken_over (λ x w. taken_within w)
    kind-framed calls (NotPredicate a) r n p h t c = remade (all a p r h t c) negated (λ x w. negated_within w)
    kind-framed calls (Call s) r n p h t c = remade (calls s p r h t c) taken_over (λ x w. taken_within w)
    kind-framed calls Unlawful r n p h t c = absurd (n refl)

  -- A word that is met.
  met_framed :
      (b a : Bool) (w p : ℕ) → possible w p (length text) ≡ b → (t : List ℕ) (c : ℕ) → Framed img text t p (met b a w t c)
  unfolding met
  met_framed false a w p e t c = still t p c (refused Records) (inl refl)
  met_framed true true w p e t c = still t p c _ (possible_within w p (length text) (says_possible w p (length text) e))
  met_framed true false w p e t c = still t p c (refused Nesting) (inr refl)

  module _ (words : Question4 img) where
    rule-framed : (left : ℕ) {ev : Evaluator} → All (nodes img) ev → All (rules img) (rule_m img text ev left)
    unfolding pair_m
    rule-framed left {ev} all r p l h t c = by (is_held (get_or t (slot_of (rules img) r p) 0))
      where
        stored : (x : Evaluation) (u : List ℕ) (d : ℕ) → Within (length text) p x → Framed img text u p (out (answered x) (set u (slot_of (rules img) r p) (word_of x)) d)
        stored x u d w =
            record {
              answer = answered x;
              after = set u (slot_of (rules img) r p) (word_of x);
              counted = d;
              is = refl;
              fits = w;
              as_long = length-set u (slot_of (rules img) r p) (word_of x);
              kept = λ j n. get_or-set_other u (slot_of (rules img) r p) j (word_of x) 0 (n r p l h);
            }

        by : (b : Bool) → Framed img text t p (looked b (rules img) (root img r) text ev left r p t c)
        by true = unfold looked in
            met_framed (possible (word_at img t r p) p (length text)) (leb (nesting_of (word_at img t r p)) left) (word_at img t r p) p refl t c
        by false = unfold looked in
            next (all (root img r) p (root_in_range img words r l) h t c)
            (λ x u d. out (answered x) (set u (slot_of (rules img) r p) (word_of x)) ((d + 1) % 2 ^ 64))
            (λ x u d w. stored x u ((d + 1) % 2 ^ 64) w)

    node-framed : (left : ℕ) → All (nodes img) (node_m img text left)
    unfolding node_m
    node-framed zero i p l h t c = still t p c (refused Nesting) (inr refl)
    node-framed (suc left) i p l h t c =
        kind-framed (node-framed left) (rule-framed left (node-framed left)) (node img i) (refers img words i l) (lawful_node img words i l) p h t c

    pub pair_framed :
        (left r p : ℕ) → r < rules img → p ≤ length text → (t : List ℕ) (c : ℕ)
        → Framed img text t p (rule_m img text (node_m img text left) left r p t c)
    pair_framed left r p l h t c = rule-framed left (node-framed left) r p l h t c

  -- "and gives 12 when the word of (start, 0) is held and impossible"
  pub pair_impossible :
      (ev : Evaluator) (left r p : ℕ) (t : List ℕ) (c : ℕ)
      → is_held (word_at img t r p) ≡ true
      → possible (word_at img t r p) p (length text) ≡ false
      → rule_m img text ev left r p t c ≡ out (refused Records) t c
  unfolding pair_m looked met
  pair_impossible ev left r p t c e f =
      ap (λ (b : Bool). looked b (rules img) (root img r) text ev left r p t c) e
      ∙ ap (λ (b : Bool). met b (leb (nesting_of (word_at img t r p)) left) (word_at img t r p) t c) f
