-- The ways through the evaluator: from what the steps gave to what the whole gives. One lemma for each way to a return.
-- Assumes nothing.
use Rattle.std.specs.Prelude.{Ok, Err}
use Rattle.grammar.specs.declared.refusal.Refusal.{Refusal}
use Prim.Native.Nat.{ℕ, ◌+◌, ◌≤◌}
use native.Mathlib.Omega.{arith}
use mathlib.Core.Path.{◌≡◌, refl, sym, ap, ◌∙◌, subst}
use mathlib.Core.Bool.{Bool, true, false}
use mathlib.Core.List.{List}
use Rattle.grammar.specs.declared.Evaluation.{Evaluation}
use Rattle.grammar.specs.declared.node.Node.TheVariants.{Sequence, Choice, NotPredicate, Call}
use Rattle.grammar.specs.Evaluates.{first_failed, in_sequence, taken_over, second_choice, negated}
use Rattle.evaluation.specs.Within.{Within}
use Rattle.evaluation.proofs.Shape.{failed_within, taken_within, negated_within, second_within, then_within}
use Rattle.records.specs.Words.{word_of, value_of, matched_of, length_of, nesting_of}
use Rattle.packrat.specs.Model.{answered, Out, out, Evaluator, bind, made, after_first, after_choice, kind_m}
use Rattle.packrat.specs.Gives.{Gives}
use Rattle.records.specs.Joinable.{Joinable}
use Rattle.packrat.proofs.Gives.{found, was_refused, says, says_matched, says_length, says_examined, says_nesting, gives_value, gives_refusal}

module _ {n at left : ℕ} (text : List ℕ) (nodes called : Evaluator) (t : List ℕ) (c : ℕ) (short : n ≤ 65535) (most : left + 1 ≤ 4096) where
  -- A first part, after which comes what its test says: where it is refused, and where it ends there with f of it.
  module _ (after : Bool → Evaluation → List ℕ → ℕ → Out) {o : Out} where
    part_refused :
        {r : Refusal} {d : ℕ} {u : List ℕ}
        → Gives n at left o (Err r) u d
        → Gives n at (left + 1) (bind o (λ x u d. after x.matched x u d)) (Err r) u d
    part_refused g =
        let w = was_refused short (omega arith) g in
        gives_refusal (ap (λ (o : Out). bind o (λ x u d. after x.matched x u d)) w)

    part_ends :
        (f : Evaluation → Evaluation) (z : Bool)
        → ((x : Evaluation) (u : List ℕ) (d : ℕ) → after z x u d ≡ out (answered (f x)) u d)
        → ((x : Evaluation) → Within n at x → Within n at (f x))
        → ((x : Evaluation) → (f x).nesting ≡ 1 + x.nesting)
        → {r d w : ℕ} {u : List ℕ}
        → Gives n at left o (Ok r) u d
        → matched_of r ≡ z
        → w ≡ word_of (f (value_of r))
        → Gives n at (left + 1) (bind o (λ x u d. after x.matched x u d)) (Ok w) u d
    part_ends f z ends within nests {d = d} {u = u} g m e =
        let x = found short (omega arith) g in
        let k = sym (says_matched short (omega arith) x) ∙ m in
        gives_value (f x.value)
        (ap (λ (o : Out). bind o (λ x u d. after x.matched x u d)) x.is ∙ ap (λ (b : Bool). after b x.value u d) k ∙ ends x.value u d)
        (e ∙ ap (λ (y : Evaluation). word_of (f y)) (says short (omega arith) x))
        (within x.value x.bounds.shape)
        (omega (arith, x.bounds.allowed, nests x.value))

  -- A then B.
  pub sequence_refused :
      (a b : ℕ) {r : Refusal} {d : ℕ} {u : List ℕ}
      → Gives n at left (nodes a at t c) (Err r) u d
      → Gives n at (left + 1) (kind_m text nodes called (Sequence a b) at t c) (Err r) u d
  unfolding kind_m
  sequence_refused a b g = part_refused (λ z x u d. after_first z nodes b at x u d) g

  pub sequence_failed :
      (a b : ℕ) {r d w : ℕ} {u : List ℕ}
      → Gives n at left (nodes a at t c) (Ok r) u d
      → matched_of r ≡ false
      → w ≡ word_of (first_failed (value_of r))
      → Gives n at (left + 1) (kind_m text nodes called (Sequence a b) at t c) (Ok w) u d
  unfolding kind_m after_first
  sequence_failed a b g m e =
      part_ends (λ z x u d. after_first z nodes b at x u d) first_failed false (λ x u d. refl) (λ x w. failed_within w) (λ x. refl) g m e

  -- What the first part leaves: its evaluation, its length as the word says it.
  module _ (a b : ℕ) {r d : ℕ} {u : List ℕ} (g : Gives n at left (nodes a at t c) (Ok r) u d) (m : matched_of r ≡ true) where
    then_runs : (o : Out) → nodes b (at + length_of r) u d ≡ o → kind_m text nodes called (Sequence a b) at t c ≡ made (in_sequence (value_of r)) o
    unfolding kind_m after_first
    then_runs o e =
        let f = found short (omega arith) g in
        let k = sym (says_matched short (omega arith) f) ∙ m in
        let l = sym (says_length short (omega arith) f) in
        ap (λ (o : Out). bind o (λ x u d. after_first x.matched nodes b at x u d)) f.is
        ∙ ap (λ (z : Bool). after_first z nodes b at f.value u d) k
        ∙ ap (λ (j : ℕ). made (in_sequence f.value) (nodes b (at + j) u d)) l
        ∙ ap (λ (x : Evaluation). made (in_sequence x) (nodes b (at + length_of r) u d)) (sym (says short (omega arith) f))
        ∙ ap (made (in_sequence (value_of r))) e

    pub sequence_second_refused :
        {s : Refusal} {e : ℕ} {v : List ℕ}
        → Gives n (at + length_of r) left (nodes b (at + length_of r) u d) (Err s) v e
        → Gives n at (left + 1) (kind_m text nodes called (Sequence a b) at t c) (Err s) v e
    sequence_second_refused g2 =
        let f = was_refused short (omega arith) g2 in
        gives_refusal (then_runs _ f)

    pub joinable :
        {s e : ℕ} {v : List ℕ}
        → Gives n (at + length_of r) left (nodes b (at + length_of r) u d) (Ok s) v e
        → Joinable r s
    joinable g2 =
        let x = found short (omega arith) g in
        let y = found short (omega arith) g2 in
        record {
          first_nesting = omega (arith, says_nesting short (omega arith) x, x.bounds.allowed);
          second_nesting = omega (arith, says_nesting short (omega arith) y, y.bounds.allowed);
          lengths = omega (arith, says_length short (omega arith) y, y.bounds.shape.in_text);
          reach = omega (arith, says_examined short (omega arith) y, y.bounds.shape.up_to_end);
        }

    pub sequence_both :
        {s e w : ℕ} {v : List ℕ}
        → Gives n (at + length_of r) left (nodes b (at + length_of r) u d) (Ok s) v e
        → w ≡ word_of (in_sequence (value_of r) (value_of s))
        → Gives n at (left + 1) (kind_m text nodes called (Sequence a b) at t c) (Ok w) v e
    sequence_both {s} {e} {v = v} g2 k =
        let x = found short (omega arith) g in
        let y = found short (omega arith) g2 in
        let sx = says short (omega arith) x in
        let sy = says short (omega arith) y in
        let lx = says_length short (omega arith) x in
        gives_value (in_sequence x.value y.value)
        (then_runs _ y.is ∙ ap (λ (z : Evaluation). out (answered (in_sequence z y.value)) v e) sx)
        (k ∙ ap (λ (z : Evaluation). word_of (in_sequence z (value_of s))) sx ∙ ap (λ (z : Evaluation). word_of (in_sequence x.value z)) sy)
        (then_within x.bounds.shape (subst (λ (j : ℕ). Within n (at + j) y.value) lx y.bounds.shape))
        (omega (arith, x.bounds.allowed, y.bounds.allowed))

  -- A else B.
  pub choice_refused :
      (a b : ℕ) {r : Refusal} {d : ℕ} {u : List ℕ}
      → Gives n at left (nodes a at t c) (Err r) u d
      → Gives n at (left + 1) (kind_m text nodes called (Choice a b) at t c) (Err r) u d
  unfolding kind_m
  choice_refused a b g = part_refused (λ z x u d. after_choice z nodes b at x u d) g

  pub choice_first :
      (a b : ℕ) {r d w : ℕ} {u : List ℕ}
      → Gives n at left (nodes a at t c) (Ok r) u d
      → matched_of r ≡ true
      → w ≡ word_of (taken_over (value_of r))
      → Gives n at (left + 1) (kind_m text nodes called (Choice a b) at t c) (Ok w) u d
  unfolding kind_m after_choice
  choice_first a b g m e =
      part_ends (λ z x u d. after_choice z nodes b at x u d) taken_over true (λ x u d. refl) (λ x w. taken_within w) (λ x. refl) g m e

  module _ (a b : ℕ) {r d : ℕ} {u : List ℕ} (g : Gives n at left (nodes a at t c) (Ok r) u d) (m : matched_of r ≡ false) where
    else-runs : (o : Out) → nodes b at u d ≡ o → kind_m text nodes called (Choice a b) at t c ≡ made (second_choice (value_of r)) o
    unfolding kind_m after_choice
    else-runs o e =
        let f = found short (omega arith) g in
        let k = sym (says_matched short (omega arith) f) ∙ m in
        ap (λ (o : Out). bind o (λ x u d. after_choice x.matched nodes b at x u d)) f.is
        ∙ ap (λ (z : Bool). after_choice z nodes b at f.value u d) k
        ∙ ap (λ (x : Evaluation). made (second_choice x) (nodes b at u d)) (sym (says short (omega arith) f))
        ∙ ap (made (second_choice (value_of r))) e

    pub choice_second_refused :
        {s : Refusal} {e : ℕ} {v : List ℕ}
        → Gives n at left (nodes b at u d) (Err s) v e
        → Gives n at (left + 1) (kind_m text nodes called (Choice a b) at t c) (Err s) v e
    choice_second_refused g2 =
        let f = was_refused short (omega arith) g2 in
        gives_refusal (else-runs _ f)

    pub choice_second :
        {s e w : ℕ} {v : List ℕ}
        → Gives n at left (nodes b at u d) (Ok s) v e
        → w ≡ word_of (second_choice (value_of r) (value_of s))
        → Gives n at (left + 1) (kind_m text nodes called (Choice a b) at t c) (Ok w) v e
    choice_second {s} {e} {v = v} g2 k =
        let x = found short (omega arith) g in
        let y = found short (omega arith) g2 in
        let sx = says short (omega arith) x in
        let sy = says short (omega arith) y in
        gives_value (second_choice x.value y.value)
        (else-runs _ y.is ∙ ap (λ (z : Evaluation). out (answered (second_choice z y.value)) v e) sx)
        (k ∙ ap (λ (z : Evaluation). word_of (second_choice z (value_of s))) sx ∙ ap (λ (z : Evaluation). word_of (second_choice x.value z)) sy)
        (second_within x.bounds.shape y.bounds.shape)
        (omega (arith, x.bounds.allowed, y.bounds.allowed))

  -- One evaluation inside, of which f makes the node's, with a nesting of one more.
  module _ (f : Evaluation → Evaluation) {o : Out} where
    inside_refused : {r : Refusal} {d : ℕ} {u : List ℕ} → Gives n at left o (Err r) u d → Gives n at (left + 1) (made f o) (Err r) u d
    inside_refused g = let w = was_refused short (omega arith) g in gives_refusal (ap (made f) w)

    inside_answered :
        ((z : Evaluation) → Within n at z → Within n at (f z))
        → ((z : Evaluation) → (f z).nesting ≡ 1 + z.nesting)
        → {r d w : ℕ} {u : List ℕ}
        → Gives n at left o (Ok r) u d
        → w ≡ word_of (f (value_of r))
        → Gives n at (left + 1) (made f o) (Ok w) u d
    inside_answered within nests g e =
        let x = found short (omega arith) g in
        gives_value (f x.value)
        (ap (made f) x.is)
        (e ∙ ap (λ (z : Evaluation). word_of (f z)) (says short (omega arith) x))
        (within x.value x.bounds.shape)
        (omega (arith, x.bounds.allowed, nests x.value))

  -- Not A.
  pub not_refused :
      (a : ℕ) {r : Refusal} {d : ℕ} {u : List ℕ}
      → Gives n at left (nodes a at t c) (Err r) u d
      → Gives n at (left + 1) (kind_m text nodes called (NotPredicate a) at t c) (Err r) u d
  unfolding kind_m
  not_refused a g = inside_refused negated g

  pub not_answered :
      (a : ℕ) {r d w : ℕ} {u : List ℕ}
      → Gives n at left (nodes a at t c) (Ok r) u d
      → w ≡ word_of (negated (value_of r))
      → Gives n at (left + 1) (kind_m text nodes called (NotPredicate a) at t c) (Ok w) u d
  unfolding kind_m
  not_answered a g e = inside_answered negated (λ z w. negated_within w) (λ z. refl) g e

  -- A call.
  pub call_refused :
      (rule : ℕ) {r : Refusal} {d : ℕ} {u : List ℕ}
      → Gives n at left (called rule at t c) (Err r) u d
      → Gives n at (left + 1) (kind_m text nodes called (Call rule) at t c) (Err r) u d
  unfolding kind_m
  call_refused rule g = inside_refused taken_over g

  pub call_answered :
      (rule : ℕ) {r d w : ℕ} {u : List ℕ}
      → Gives n at left (called rule at t c) (Ok r) u d
      → w ≡ word_of (taken_over (value_of r))
      → Gives n at (left + 1) (kind_m text nodes called (Call rule) at t c) (Ok w) u d
  unfolding kind_m
  call_answered rule g e = inside_answered taken_over (λ z w. taken_within w) (λ z. refl) g e

-- The nesting of an answered word is at most the allowance.
pub nesting_allowed :
    {n at left : ℕ} {o : Out} {r d : ℕ} {u : List ℕ}
    → n ≤ 65535
    → left ≤ 4096
    → Gives n at left o (Ok r) u d
    → nesting_of r ≤ left
nesting_allowed short most g =
    let f = found short most g in
    omega (arith, says_nesting short most f, f.bounds.allowed)

-- An answered word says its evaluation and nothing else.
pub says_itself :
    {n at left : ℕ} {o : Out} {r d : ℕ} {u : List ℕ}
    → n ≤ 65535
    → left ≤ 4096
    → Gives n at left o (Ok r) u d
    → r ≡ word_of (value_of r)
says_itself short most g =
    let f = found short most g in
    f.word_is ∙ ap word_of (sym (says short most f))

-- An answered word stays in the text.
pub length_within :
    {n at left : ℕ} {o : Out} {r d : ℕ} {u : List ℕ}
    → n ≤ 65535
    → left ≤ 4096
    → Gives n at left o (Ok r) u d
    → at + length_of r ≤ n
length_within short most g =
    let f = found short most g in
    omega (arith, says_length short most f, f.bounds.shape.in_text)
