-- Held words: one word's bit, a word that is kept, and how many of several are held.
use Rattle.std.specs.Prelude.{ℕ, zero, suc, ◌+◌, cond, ◌&&◌, leb}
use Rattle.records.specs.Words.{is_held, examined_of}

-- 1 for a held word, 0 for another.
abbrev pub held_bit : ℕ → ℕ
held_bit word = cond (is_held word) 1 0

-- A held word itself, 0 for another.
abbrev pub only_held : ℕ → ℕ
only_held word = cond (is_held word) word 0

-- A held word that examined at most `limit` bytes, 0 for another.
unfoldable pub kept_word : (limit word : ℕ) → ℕ
kept_word limit word = cond (is_held word && leb (examined_of word) limit) word 0

-- How many of the first n words f 0, f 1, .. are held.
abbrev pub held_to : (ℕ → ℕ) → ℕ → ℕ
held_to f zero = 0
held_to f (suc n) = held_to f n + held_bit (f n)
