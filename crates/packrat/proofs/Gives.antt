-- Using what a function of the evaluator promises: an answered word is an evaluation's.
-- Assumes nothing.
use Rattle.grammar.specs.declared.refusal.Refusal.{Refusal}
use Rattle.std.specs.Prelude.{Ok, Err}
use Prim.Native.Nat.{ℕ, ◌≤◌}
use native.Mathlib.Omega.{arith}
use mathlib.Core.Path.{◌≡◌, refl, ap, ◌∙◌}
use mathlib.Core.List.{List}
use Rattle.grammar.specs.declared.Evaluation.{Evaluation}
use Rattle.evaluation.specs.Within.{Within}
use Rattle.records.specs.Words.{word_of, value_of, matched_of, length_of, examined_of, nesting_of}
use Rattle.records.proofs.Codec.{InRange, value_back, matched_back, length_back, examined_back, nesting_back}
use Rattle.packrat.specs.Model.{Answer, answered, refused, Out, out}
use Rattle.packrat.specs.Gives.{coded, Allowed, Bounded, Gives}

-- An answered word, with its evaluation.
pub record Found (n at left : ℕ) (o : Out) (word : ℕ) (table : List ℕ) (count : ℕ) : Type 0 where
  pub value : Evaluation
  pub is : o ≡ out (answered value) table count
  pub word_is : word ≡ word_of value
  pub bounds : Allowed n at left value

pub in_range : {n at left : ℕ} {x : Evaluation} → n ≤ 65535 → left ≤ 4096 → Allowed n at left x → InRange x
in_range short most a =
    record {
      nesting_fits = omega (arith, a.allowed);
      examined_fits = omega (arith, a.shape.up_to_end);
      length_fits = omega (arith, a.shape.in_text);
    }

module _ {n at left : ℕ} {o : Out} {table : List ℕ} {count : ℕ} where
  pub found : {word : ℕ} → n ≤ 65535 → left ≤ 4096 → Gives n at left o (Ok word) table count → Found n at left o word table count
  found {word} short most g = go g.answer g.is g.given_is g.bounds
    where
      go : (a : Answer) → o ≡ out a table count → Ok word ≡ coded a → Bounded n at left a → Found n at left o word table count
      go (answered x) e w b = record { value = x; is = e; word_is = cc; bounds = b }
      go (refused r) e w b = absurd (let z : ◌≡◌ {A = ℕ} 0 1 = cc in omega arith)

  pub was_refused : {r : Refusal} → n ≤ 65535 → left ≤ 4096 → Gives n at left o (Err r) table count → o ≡ out (refused r) table count
  was_refused {r} short most g = go g.answer g.is g.given_is
    where
      go : (a : Answer) → o ≡ out a table count → Err r ≡ coded a → o ≡ out (refused r) table count
      go (answered x) e w = absurd (let z : ◌≡◌ {A = ℕ} 0 1 = cc in omega arith)
      go (refused q) e w = e ∙ ap (λ (j : Refusal). out (refused j) table count) cc

  -- The word says the evaluation.
  module _ {word : ℕ} (short : n ≤ 65535) (most : left ≤ 4096) (f : Found n at left o word table count) where
    pub says : value_of word ≡ f.value
    says = ap value_of f.word_is ∙ value_back f.value (in_range short most f.bounds)

    pub says_matched : matched_of word ≡ f.value.matched
    says_matched = ap matched_of f.word_is ∙ matched_back f.value (in_range short most f.bounds)

    pub says_length : length_of word ≡ f.value.length
    says_length = ap length_of f.word_is ∙ length_back f.value (in_range short most f.bounds)

    pub says_examined : examined_of word ≡ f.value.examined
    says_examined = ap examined_of f.word_is ∙ examined_back f.value (in_range short most f.bounds)

    pub says_nesting : nesting_of word ≡ f.value.nesting
    says_nesting = ap nesting_of f.word_is ∙ nesting_back f.value (in_range short most f.bounds)

-- Making the promise of an evaluation, and of a refusal.
pub gives_value :
    {n at left : ℕ} {o : Out} {word : ℕ} {table : List ℕ} {count : ℕ} (x : Evaluation)
    → o ≡ out (answered x) table count
    → word ≡ word_of x
    → Within n at x
    → x.nesting ≤ left
    → Gives n at left o (Ok word) table count
gives_value x e w b l = record { answer = answered x; is = e; given_is = ap Ok w; bounds = record { shape = b; allowed = l } }

pub gives_refusal :
    {n at left : ℕ} {o : Out} {r : Refusal} {table : List ℕ} {count : ℕ}
    → o ≡ out (refused r) table count
    → Gives n at left o (Err r) table count
gives_refusal {r = r} e = record { answer = refused r; is = e; given_is = refl; bounds = tt }
