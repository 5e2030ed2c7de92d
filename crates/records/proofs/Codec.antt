-- The codec of a record word: a word says the evaluation that it was made of, it is held, and its zero bits are 0. Assumes nothing.
use Prim.Native.Nat.{ℕ, ◌+◌, ◌*◌, ◌/◌, ◌%◌, ◌^◌, ◌≤◌, ◌<◌}
use native.Mathlib.Omega.{arith}
use mathlib.Core.Path.{◌≡◌, refl, ap, ◌∙◌}
use mathlib.Core.Bool.{Bool, true, false}
use lib.Dec.{eqb}
use mir.Val.{bool_byte}
use Rattle.grammar.specs.declared.Evaluation.{Evaluation}
use Rattle.grammar.proofs.Bools.{byte_small}
use Rattle.records.specs.Words.{matched_of, spare_of, nesting_of, examined_of, length_of, value_of, word_of, record_word, record_of}

-- The fields fit their bits.
pub record InRange (x : Evaluation) : Type 0 where
  pub nesting_fits : x.nesting < 2 ^ 13
  pub examined_fits : x.examined < 2 ^ 17
  pub length_fits : x.length < 2 ^ 16

tells : (b : Bool) → eqb (bool_byte b) 1 ≡ b
tells true = refl
tells false = refl

pub nesting_small : (word : ℕ) → nesting_of word < 2 ^ 13
unfolding nesting_of
nesting_small word = omega arith

pub examined_small : (word : ℕ) → examined_of word < 2 ^ 17
unfolding examined_of
examined_small word = omega arith

pub length_small : (word : ℕ) → length_of word < 2 ^ 16
unfolding length_of
length_small word = omega arith

module _ (x : Evaluation) (r : InRange x) where
  pub length_back : length_of (word_of x) ≡ x.length
  unfolding length_of word_of
  length_back = omega (arith, r.nesting_fits, r.examined_fits, r.length_fits, byte_small x.matched)

  pub examined_back : examined_of (word_of x) ≡ x.examined
  unfolding examined_of word_of
  examined_back = omega (arith, r.nesting_fits, r.examined_fits, r.length_fits, byte_small x.matched)

  pub nesting_back : nesting_of (word_of x) ≡ x.nesting
  unfolding nesting_of word_of
  nesting_back = omega (arith, r.nesting_fits, r.examined_fits, r.length_fits, byte_small x.matched)

  pub spare_back : spare_of (word_of x) ≡ 0
  unfolding spare_of word_of
  spare_back = omega (arith, r.nesting_fits, r.examined_fits, r.length_fits, byte_small x.matched)

  pub matched_back : matched_of (word_of x) ≡ x.matched
  unfolding matched_of word_of
  matched_back =
      let e : (2 ^ 63 + bool_byte x.matched * 2 ^ 62 + x.nesting * 2 ^ 33 + x.examined * 2 ^ 16 + x.length) / 2 ^ 62 % 2 ≡ bool_byte x.matched =
      omega (arith, r.nesting_fits, r.examined_fits, r.length_fits, byte_small x.matched) in
      ap (λ (k : ℕ). eqb k 1) e ∙ tells x.matched

  pub value_back : value_of (word_of x) ≡ x
  unfolding value_of
  value_back = λ i. record { matched = matched_back i; length = length_back i; examined = examined_back i; nesting = nesting_back i }

  pub word_held : 2 ^ 63 ≤ word_of x
  unfolding word_of
  word_held = omega arith

-- A record with no spare bits has the word of its evaluation.
pub plain_word :
    (m : Bool) (nesting examined length : ℕ)
    → nesting < 2 ^ 13
    → examined < 2 ^ 17
    → length < 2 ^ 16
    → record_word (record { matched = m; spare = 0; nesting = nesting; examined = examined; length = length })
    ≡ word_of (record { matched = m; length = length; examined = examined; nesting = nesting })
unfolding record_word word_of
plain_word m nesting examined length a b c = omega arith

-- A word with no spare bits says its evaluation again.
pub word_again : (word : ℕ) → spare_of word ≡ 0 → record_word (record_of word) ≡ word_of (value_of word)
unfolding record_word word_of value_of
word_again word e =
    let a = nesting_small word in
    let b = examined_small word in
    let c = length_small word in
    omega arith
