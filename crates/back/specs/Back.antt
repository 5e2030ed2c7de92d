-- The rows from an edit on: words carried, a row that stays put over them, and the whole.
use Rattle.std.specs.Prelude.{ℕ, ◌+◌, ◌-◌, ◌≤◌, ◌<◌, ◌≡◌, cond, ◌&&◌, List, length, leb, ltb}
use Rattle.buffers.specs.Filled.{Filled, at}
use Rattle.records.specs.Words.{is_held}
use Rattle.editing.specs.Held.{only_held, kept_word, held_to}
use Rattle.words.specs.Counted.{Counted}

-- From slot `from` so many words were carried to slot `to`, those that are not held as 0; c of them are held.
abbrev pub Carried : (old new : List ℕ) (from to count c : ℕ) → Type 0
Carried old new from to count c =
    Counted (λ j. only_held (at old (from + (j - to)))) old new to (to + count) (λ j. at old (from + j)) count c

-- The words of a first row that stay at its position.
pub record RowOf (words : List ℕ) (rules : ℕ) (row : List ℕ) : Type 0 where
  pub stay : (rule : ℕ) → rule < rules → at row rule ≡ kept_word 0 (at words rule)

-- A row was put over the first words where it is held; c words more are held.
pub record Put (row old new : List ℕ) (rules c : ℕ) : Type 0 where
  pub filled : Filled (λ j. cond (is_held (at row j)) (at row j) (at old j)) old new 0 rules
  pub counted : c + held_to (at old) rules ≡ held_to (at new) rules

-- The slots of an edit's back: a first row, the words that are gone, new and carried.
pub record BackFits (rules gone new tail long : ℕ) : Type 0 where
  pub most_rules : rules ≤ 64
  pub row : rules ≤ long
  pub old_fits : gone + tail ≤ long
  pub new_fits : new + tail ≤ long

-- The word that came to slot j: the one behind the edit that is carried there, 0 where none is.
abbrev pub came_word : (gone new tail : ℕ) → List ℕ → ℕ → ℕ
came_word gone new tail words j = cond (leb new j && ltb j (new + tail)) (only_held (at words (gone + (j - new)))) 0

-- The back after an edit: in the first row the words that stay win.
pub record Back (rules gone new tail : ℕ) (old words : List ℕ) (c : ℕ) : Type 0 where
  pub long : length words ≡ length old
  pub first :
      (j : ℕ)
      → j < rules
      → at words j ≡ cond (is_held (kept_word 0 (at old j))) (kept_word 0 (at old j)) (came_word gone new tail old j)
  pub rest : (j : ℕ) → rules ≤ j → j < length old → at words j ≡ came_word gone new tail old j
  pub counted : c ≡ held_to (at words) (length old)
