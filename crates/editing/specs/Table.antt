-- The memo table: what an opening and an edit leave in the lent words, for every table content.
use Rattle.std.specs.Prelude.{ℕ, zero, suc, ◌+◌, ◌-◌, ◌/◌, ◌%◌, ◌≤◌, Bool, cond, ◌&&◌, List, [], ◌∷◌, ◌++◌, length, get_or, drop, replicate}
use Rattle.std.specs.Prelude.{leb}
use Rattle.records.specs.Words.{is_held, examined_of}
use Rattle.records.specs.Slots.{slot_of}
pub use Rattle.records.specs.Slots.{table_size}
use Rattle.editing.specs.Text.{new_length}

-- The word of a pair.
abbrev pub table_word : (rules : ℕ) (table : List ℕ) (rule position : ℕ) → ℕ
table_word rules table rule position = get_or table (slot_of rules rule position) 0

-- "cap at most 65,535", "the table wholly lent", for 1 to 64 rules.
pub record TableLent (rules cap : ℕ) (words : List ℕ) : Type 0 where
  pub most : cap ≤ 65535
  pub some_rules : 1 ≤ rules
  pub most_rules : rules ≤ 64
  pub whole : table_size rules cap ≤ length words

-- The first case, of a word at q: "q ≤ s, the pair was held at q, and q + examined ≤ s". "the program uses the stored field".
abbrev pub stays : (s q word : ℕ) → Bool
stays s q word = leb q s && (is_held word && leb (q + examined_of word) s)

-- The second case: "s + k ≤ q ≤ n' and the pair was held at q − k + (e − s)".
abbrev pub comes : (n s e k q word : ℕ) → Bool
comes n s e k q word = leb (s + k) q && (leb q (new_length n s e k) && is_held word)

-- Where a position was before the edit: "q − k + (e − s)".
abbrev pub came_from : (s e k q : ℕ) → ℕ
came_from s e k q = q - k + (e - s)

-- The word of a pair after an edit: "moves words whole, the first case winning". "A slot whose pair doesn't stand after an edit is 0."
unfoldable pub word_after : (rules n s e k : ℕ) (table : List ℕ) (rule q : ℕ) → ℕ
word_after rules n s e k table rule q =
    cond
    (stays s q (table_word rules table rule q))
    (table_word rules table rule q)
    (cond (comes n s e k q (table_word rules table rule (came_from s e k q))) (table_word rules table rule (came_from s e k q)) 0)

-- The list f 0, f 1, .. of so many.
abbrev pub tabulate : (ℕ → ℕ) → ℕ → List ℕ
tabulate f zero = []
tabulate f (suc n) = f 0 ∷ tabulate (λ j. f (suc j)) n

-- The table after an edit: slot j is that of rule j % rules at position j / rules.
unfoldable pub words_after : (rules cap n s e k : ℕ) (table : List ℕ) → List ℕ
words_after rules cap n s e k table =
    tabulate (λ j. word_after rules n s e k table (j % rules) (j / rules)) (table_size rules cap)

-- All words after an edit: "words after it are never touched".
abbrev pub table_after : (rules cap n s e k : ℕ) (table : List ℕ) → List ℕ
table_after rules cap n s e k table = words_after rules cap n s e k table ++ drop (table_size rules cap) table

-- All words after an opening: "zeroes the rest of the buffer and the table".
abbrev pub cleared_table : (rules cap : ℕ) (table : List ℕ) → List ℕ
cleared_table rules cap table = replicate (table_size rules cap) 0 ++ drop (table_size rules cap) table

-- How many words are held: "the number of pairs standing".
abbrev pub held_in : List ℕ → ℕ
held_in [] = 0
held_in (w ∷ ws) = cond (is_held w) 1 0 + held_in ws
