-- Where a pair's record lies, and how many words the records take.
use Rattle.std.specs.Prelude.{ℕ, ◌+◌, ◌*◌}

-- "The slot of (rule, position) is position × rules + rule."
unfoldable pub slot_of : (rules rule position : ℕ) → ℕ
slot_of rules rule position = position * rules + rule

-- "The first rules × (cap + 1) words are the table".
abbrev pub table_size : (rules cap : ℕ) → ℕ
table_size rules cap = rules * (cap + 1)
