-- The rows before an edit: what is kept of them, and what a scan of words tells.
use Rattle.std.specs.Prelude.{ℕ, ◌+◌, ◌-◌, ◌/◌, ◌≤◌, ◌<◌, ◌≡◌, false, List, length, Option, IfSome}
use Rattle.buffers.specs.Filled.{at}
use Rattle.records.specs.Words.{is_held, examined_of}
use Rattle.editing.specs.Held.{kept_word, held_to}
use Rattle.words.specs.Counted.{Counted}

-- Of words that begin with the row of position q: which word stays at slot j when the edit starts at s.
abbrev pub kept_at : (rules s q : ℕ) → List ℕ → ℕ → ℕ
kept_at rules s q words j = kept_word (s - (q + j / rules)) (at words j)

-- Rows that begin with that of position q, done: of so many words each is kept or 0, and c are held.
abbrev pub KeptRows : (rules s q : ℕ) (old new : List ℕ) (count c : ℕ) → Type 0
KeptRows rules s q old new count c = Counted (kept_at rules s q old) old new 0 count (kept_at rules s q old) count c

-- What a scan tells of words, where it tells how many are held: each word is 0 or held, with an examined field of at most `limit`.
pub record AllStay (words : List ℕ) (limit held : ℕ) : Type 0 where
  pub counted : held ≡ held_to (at words) (length words)
  pub bound : (j : ℕ) → j < length words → examined_of (at words j) ≤ limit
  pub empty : (j : ℕ) → j < length words → is_held (at words j) ≡ false → at words j ≡ 0

-- What a scan tells of words.
abbrev pub Scanned : (words : List ℕ) (limit : ℕ) → Option ℕ → Type 0
Scanned words limit r = IfSome r (AllStay words limit)
