-- True records: "A held word is true when its matched bit, nesting, examined and length are those of its pair's evaluation on the
-- present text, and its zero bits are 0."
use Rattle.std.specs.Prelude.{ℕ, ◌≤◌, ◌<◌, ◌≡◌, true, List, length}
use Rattle.grammar.specs.declared.Evaluation.{Evaluation}
use Rattle.grammar.specs.Image.{rules}
use Rattle.grammar.specs.Evaluates.{Fresh, a_pair}
use Rattle.records.specs.Words.{is_held, word_of}
use Rattle.packrat.specs.Over.{word_at}

-- The word is the one of its pair's evaluation, whose nesting is at most 4,096: "whose nesting is above 4,096" makes a record foreign.
pub record IsTrue (img text : List ℕ) (rule position word : ℕ) : Type 0 where
  pub value : Evaluation
  pub evaluated : Fresh img text (a_pair rule) position value
  pub word_is : word ≡ word_of value
  pub nesting_allowed : value.nesting ≤ 4096

-- Every held word at a position of the text is true.
pub record TrueTable (img text table : List ℕ) : Type 0 where
  pub held_words :
      (r p : ℕ)
      → r < rules img
      → p ≤ length text
      → is_held (word_at img table r p) ≡ true
      → IsTrue img text r p (word_at img table r p)
