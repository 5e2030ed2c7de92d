-- Evaluation over a table of records: "Ford's rules, each held pair that is called, and the start pair too, taking what its word says,
-- true or not". A held word that is not possible answers nothing.
use Rattle.std.specs.Prelude.{ℕ, Bool, true, false, List, length, get_or}
use Rattle.grammar.specs.declared.Evaluation.{Evaluation}
use Rattle.grammar.specs.Image.{rules}
use Rattle.grammar.specs.Evaluates.{Evaluates, Subject, CallAnswer, by_body, by_record, no_answer}
use Rattle.records.specs.Words.{is_held, possible, value_of}
use Rattle.records.specs.Slots.{slot_of}

-- The word of a pair.
abbrev pub word_at : (img table : List ℕ) → (rule position : ℕ) → ℕ
word_at img table r p = get_or table (slot_of (rules img) r p) 0

abbrev pub taken : (held possible : Bool) → ℕ → CallAnswer
taken false possible word = by_body
taken true true word = by_record (value_of word)
taken true false word = no_answer

unfoldable pub over : (img text table : List ℕ) → ℕ → ℕ → CallAnswer
over img text table r p =
    taken (is_held (word_at img table r p)) (possible (word_at img table r p) p (length text)) (word_at img table r p)

abbrev pub Over : (img text table : List ℕ) → Subject → ℕ → Evaluation → Type 0
Over img text table = Evaluates img text (over img text table)
