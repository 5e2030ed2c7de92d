-- What the lent buffers hold from call to call: a text and then zeros stay so over an edit, the words after the table stay, and the table
-- keeps its size. Assumes nothing.
use Prim.Native.Nat.{ℕ, ◌-◌, ◌/◌, ◌%◌, ◌≤◌, ◌<◌}
use native.Mathlib.Omega.{arith}
use mathlib.Core.Path.{◌≡◌, sym, ap, ap₂, ◌∙◌}
use mathlib.Core.List.{List, ◌++◌, append_assoc}
use lib.ListN.{length, take, drop, replicate, length-append, length-drop, length-replicate, get_or-replicate}
use lib.Seq.{length-take-le, take-append-le, drop-append-le, take_at, drop_at}
use Rattle.buffers.proofs.Parts.{joined_first}
use Rattle.records.specs.Slots.{slot_of, table_size}
use Rattle.records.proofs.Slots.{slot_in}
use Rattle.editing.specs.Text.{EditFits, new_length, text_after, opened, edited}
use Rattle.editing.specs.Table.{table_word, TableLent, word_after, words_after, table_after, cleared_table}
use Rattle.editing.proofs.Tabulated.{tabulate_long}

module _ (cap s e : ℕ) (text r : List ℕ) (fits : EditFits cap (length text) s e (length r)) where
  pub edited_long : length (edited text s e r) ≡ new_length (length text) s e (length r)
  edited_long =
      let a = length-append (take s text) (r ++ drop e text) in
      let b = length-append r (drop e text) in
      let c = length-take-le s text (omega arith) in
      let d = length-drop e text in
      omega arith

  opened_long : length (opened cap text) ≡ cap
  opened_long =
      let a = length-append text (replicate (cap - length text) 0) in
      let b = length-replicate {A = ℕ} (cap - length text) 0 in
      omega arith

  -- A text and then zeros: so it is after an edit.
  pub edit_opened : text_after (opened cap text) (length text) s e r ≡ opened cap (edited text s e r)
  unfolding text_after
  edit_opened =
      let zeros : List ℕ = replicate (cap - length text) 0 in
      let front : take s (opened cap text) ≡ take s text = take-append-le s text zeros (omega arith) in
      let rest : drop e (opened cap text) ≡ drop e text ++ zeros = drop-append-le e text zeros (omega arith) in
      let tail : take (length text - e) (drop e (opened cap text)) ≡ drop e text =
      ap (take (length text - e)) rest ∙ take_at (drop e text) zeros (length text - e) (length-drop e text) in
      let count : length (opened cap text) - new_length (length text) s e (length r) ≡ cap - length (edited text s e r) =
      ap₂ (λ (x y : ℕ). x - y) opened_long (sym edited_long) in
      ap₂
      (λ (x y : List ℕ). x ++ (r ++ (y ++ replicate (length (opened cap text) - new_length (length text) s e (length r)) 0)))
      front
      tail
      ∙ ap (λ (x : ℕ). take s text ++ (r ++ (drop e text ++ replicate x 0))) count
      ∙ sym
      (append_assoc (take s text) (r ++ drop e text) (replicate (cap - length (edited text s e r)) 0)
      ∙ ap (λ (x : List ℕ). take s text ++ x) (append_assoc r (drop e text) (replicate (cap - length (edited text s e r)) 0)))

-- Words before what is behind the table.
kept_length : (size : ℕ) (words t : List ℕ) → length words ≡ size → size ≤ length t → length (words ++ drop size t) ≡ length t
kept_length size words t e h =
    let a = length-append words (drop size t) in
    let b = length-drop size t in
    omega arith

module _ {R cap : ℕ} {t : List ℕ} (lent : TableLent R cap t) where
  pub cleared_long : length (cleared_table R cap t) ≡ length t
  cleared_long = kept_length (table_size R cap) (replicate (table_size R cap) 0) t (length-replicate (table_size R cap) 0) lent.whole

  pub cleared_tail : drop (table_size R cap) (cleared_table R cap t) ≡ drop (table_size R cap) t
  cleared_tail =
      drop_at (replicate (table_size R cap) 0) (drop (table_size R cap) t) (table_size R cap) (length-replicate (table_size R cap) 0)

  pub cleared_word : (rule q : ℕ) → rule < R → q ≤ cap → table_word R (cleared_table R cap t) rule q ≡ 0
  cleared_word rule q below inside =
      let slot = slot_in R cap rule q below inside in
      joined_first (replicate (table_size R cap) 0) (drop (table_size R cap) t) (table_size R cap) (slot_of R rule q)
      (length-replicate (table_size R cap) 0) slot
      ∙ get_or-replicate (table_size R cap) (slot_of R rule q) 0 0 slot

  module _ (n s e k : ℕ) where
    after-words : length (words_after R cap n s e k t) ≡ table_size R cap
    unfolding words_after
    after-words = tabulate_long (λ j. word_after R n s e k t (j % R) (j / R)) (table_size R cap)

    pub after_long : length (table_after R cap n s e k t) ≡ length t
    after_long = kept_length (table_size R cap) (words_after R cap n s e k t) t after-words lent.whole

    pub after_tail : drop (table_size R cap) (table_after R cap n s e k t) ≡ drop (table_size R cap) t
    after_tail = drop_at (words_after R cap n s e k t) (drop (table_size R cap) t) (table_size R cap) after-words
