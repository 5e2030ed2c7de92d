-- The record word: which bits are which field, which evaluation a word says, and question 12.
use Rattle.std.specs.Prelude.{ℕ, ◌+◌, ◌*◌, ◌%◌, ◌^◌, ◌≤◌, ◌≡◌, Bool, false, cond, ◌&&◌, ◌||◌, leb, eqb, Option, Some, None}
use mir.Val.{bool_byte}
use Rattle.grammar.specs.Image.{field}
use Rattle.grammar.specs.declared.Evaluation.{Evaluation}
use Rattle.records.specs.declared.Record.{Record}

-- "A record is a 64-bit word: held 1, matched 1, zero 16, nesting 13, examined 17, length 16."
abbrev pub is_held : ℕ → Bool
is_held word = leb (2 ^ 63) word

unfoldable pub matched_of : ℕ → Bool
matched_of word = eqb (field word 62 1) 1

unfoldable pub spare_of : ℕ → ℕ
spare_of word = field word 46 16

unfoldable pub nesting_of : ℕ → ℕ
nesting_of word = field word 33 13

unfoldable pub examined_of : ℕ → ℕ
examined_of word = field word 16 17

unfoldable pub length_of : ℕ → ℕ
length_of word = field word 0 16

-- The evaluation that a word says.
unfoldable pub value_of : ℕ → Evaluation
value_of word =
    record { matched = matched_of word; length = length_of word; examined = examined_of word; nesting = nesting_of word }

-- The word of an evaluation: held, its zero bits 0.
unfoldable pub word_of : Evaluation → ℕ
word_of x = 2 ^ 63 + bool_byte x.matched * 2 ^ 62 + x.nesting * 2 ^ 33 + x.examined * 2 ^ 16 + x.length

-- The word of a record. A field that is too wide loses its upper bits.
unfoldable pub record_word : Record → ℕ
record_word r =
    2 ^ 63
    + bool_byte r.matched * 2 ^ 62
    + r.spare % 2 ^ 16 * 2 ^ 46
    + r.nesting % 2 ^ 13 * 2 ^ 33
    + r.examined % 2 ^ 17 * 2 ^ 16
    + r.length % 2 ^ 16

-- "12. Reading: is each record met possible (nesting 1 to 4,096, length ≤ examined, position + length ≤ n, position + examined ≤ n +
-- 1, failure with length 0, zero bits)"
pub record IsPossible (word at n : ℕ) : Type 0 where
  pub some_nesting : 1 ≤ nesting_of word
  pub most_nesting : nesting_of word ≤ 4096
  pub in_examined : length_of word ≤ examined_of word
  pub in_text : at + length_of word ≤ n
  pub up_to_end : at + examined_of word ≤ n + 1
  pub failure : matched_of word ≡ false → length_of word ≡ 0
  pub zero_bits : spare_of word ≡ 0

-- The same as a test.
unfoldable pub possible : (word at n : ℕ) → Bool
possible word at n =
    leb 1 (nesting_of word)
    && (leb (nesting_of word) 4096
    && (leb (length_of word) (examined_of word)
    && (leb (at + length_of word) n
    && (leb (at + examined_of word) (n + 1) && ((matched_of word || eqb (length_of word) 0) && eqb (spare_of word) 0)))))

-- The record that a word says.
abbrev pub record_of : ℕ → Record
record_of word =
    record {
      matched = matched_of word;
      spare = spare_of word;
      nesting = nesting_of word;
      examined = examined_of word;
      length = length_of word;
    }

-- The same, field by field.
pub record SaidBy (word : ℕ) (r : Record) : Type 0 where
  pub matched_is : r.matched ≡ matched_of word
  pub spare_is : r.spare ≡ spare_of word
  pub nesting_is : r.nesting ≡ nesting_of word
  pub examined_is : r.examined ≡ examined_of word
  pub length_is : r.length ≡ length_of word

-- What the decoder answers.
abbrev pub decoded : (word at n : ℕ) → Option Record
decoded word at n = cond (possible word at n) (Some (record_of word)) None
