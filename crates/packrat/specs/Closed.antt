-- Tables that are true and closed under calls, which are those without foreign records: "words that aren't true, whose nesting is above
-- 4,096 or whose called pairs are missing". And what a reading leaves over one.
use Rattle.std.specs.Prelude.{ℕ, ◌+◌, ◌≤◌, ◌<◌, ◌^◌, ◌≡◌, true, false, not, ◌&&◌, ◌||◌, List, length, get_or}
use Rattle.grammar.specs.declared.Evaluation.{Evaluation}
use Rattle.grammar.specs.Image.{rules, body}
use Rattle.grammar.specs.Evaluates.{Fresh, a_node}
use Rattle.evaluation.specs.Calls.{Pair, In, is_in, calls_of}
use Rattle.evaluation.specs.Counts.{count_pairs}
use Rattle.records.specs.Words.{is_held}
use Rattle.records.specs.Slots.{slot_of}
use Rattle.packrat.specs.Model.{answered, Out, out}
use Rattle.packrat.specs.Over.{word_at}
use Rattle.packrat.specs.True.{TrueTable}

-- With each held pair of the text, the pairs called while its body is evaluated are held.
pub record ClosedTable (img text table : List ℕ) : Type 0 where
  pub called_held :
      (r p : ℕ)
      → r < rules img
      → p ≤ length text
      → is_held (word_at img table r p) ≡ true
      → (z : Evaluation) (u : Fresh img text (a_node (body img r)) p z) (y : Pair)
      → In y (calls_of u)
      → is_held (word_at img table y.rule y.position) ≡ true

-- "The set gains every reached pair": the table before and after, where the pairs ps are reached.
pub record Gains (img text before : List ℕ) (ps : List Pair) (after : List ℕ) : Type 0 where
  pub as_long : length after ≡ length before
  pub true_words : TrueTable img text after
  pub closed : ClosedTable img text after
  pub holds :
      (r q : ℕ)
      → r < rules img
      → q ≤ length text
      → is_held (word_at img after r q) ≡ is_held (word_at img before r q) || is_in r q ps
  pub kept :
      (j : ℕ)
      → ((r q : ℕ) → In (record { rule = r; position = q }) ps → is_held (word_at img before r q) ≡ false → j ≡ slot_of (rules img) r q → ⊥)
      → get_or after j 0 ≡ get_or before j 0

-- "Evaluations counts reached pairs not held before."
abbrev pub new_pairs : (img text before : List ℕ) → List Pair → ℕ
new_pairs img text before ps = count_pairs (rules img) (length text + 1) (λ r q. is_in r q ps && not (is_held (word_at img before r q)))

-- A run over such a table from a count, of a pair whose evaluation is z and evaluates the bodies of the pairs ps without records.
pub record Reads (img text before : List ℕ) (count : ℕ) (z : Evaluation) (ps : List Pair) (o : Out) : Type 0 where
  pub after : List ℕ
  pub counted : ℕ
  pub is : o ≡ out (answered z) after counted
  pub gains : Gains img text before ps after
  pub counts : count < 2 ^ 63 → counted ≡ count + new_pairs img text before ps
