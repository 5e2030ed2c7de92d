-- The rows of a listing: "the calls that made the match, parents first, left to right; calls under a not, in a failed choice or in a
-- failed round give no row. The start rule has a row." They are read off an evaluation by Ford's rules, not off the walk that writes
-- them; any two derivations of an evaluation have the same rows (proofs/RowsOnce).
use Rattle.std.specs.Prelude.{ℕ, ◌+◌, ◌*◌, ◌^◌, ◌<◌, ◌≡◌, Bool, true, false, List, [], ◌∷◌, ◌++◌}
use Rattle.grammar.specs.declared.Evaluation.{Evaluation}
use Rattle.grammar.specs.Evaluates.{Fresh, Subject}
use Rattle.grammar.specs.Evaluates.{ev_empty, ev_terminal, ev_then_first_fails, ev_then, ev_else_first, ev_else_second}
use Rattle.grammar.specs.Evaluates.{ev_star, ev_last_round, ev_round, ev_not, ev_call, ev_body, ev_record}

-- A call that made the match: its rule, "depth 16 (rows of the calls around it)", where it starts and how long it is.
pub record Row : Type 0 where
  pub rule : ℕ
  pub depth : ℕ
  pub start : ℕ
  pub length : ℕ

-- "A row is 64 bits: rule 8, zero 8, depth 16 (rows of the calls around it), start 16, length 16."
unfoldable pub row_word : Row → ℕ
row_word r = r.rule * 2 ^ 56 + r.depth * 2 ^ 32 + r.start * 2 ^ 16 + r.length

-- A word that has a row's fields, each in its bits, and nothing else: the five fields, most significant first, are all 64 bits of it. The
-- rows of a text that is not too deep have such words (proofs/RowsInside, `start_fields`).
pub record Fields (word : ℕ) (r : Row) : Type 0 where
  pub rule_fits : r.rule < 2 ^ 8
  pub depth_fits : r.depth < 2 ^ 16
  pub start_fits : r.start < 2 ^ 16
  pub length_fits : r.length < 2 ^ 16
  pub all_bits : word ≡ (((r.rule * 2 ^ 8 + 0) * 2 ^ 16 + r.depth) * 2 ^ 16 + r.start) * 2 ^ 16 + r.length

abbrev pub AllFields : List Row → Type 0
AllFields [] = Unit {0}
AllFields (r ∷ rs) = Fields (row_word r) r × AllFields rs

unfoldable pub row_words : List Row → List ℕ
row_words [] = []
row_words (r ∷ rs) = row_word r ∷ row_words rs

-- What failed gives no row.
abbrev pub if_matched : Bool → List Row → List Row
if_matched true rs = rs
if_matched false rs = []

-- The rows of an evaluation that has so many rows around it. "No match gives 0 rows." A sequence whose second part fails has none; a
-- star has those of its matched rounds. Without records no pair is answered by one, so that `ev_record` does not
-- occur.
unfoldable pub rows_of : {img text : List ℕ} {s : Subject} {p : ℕ} {z : Evaluation} → Fresh img text s p z → (around : ℕ) → List Row
rows_of (ev_empty e) k = []
rows_of (ev_terminal e) k = []
rows_of (ev_then_first_fails u m e) k = []
rows_of (ev_then {y = y} u m v e) k = if_matched y.matched (rows_of u k ++ rows_of v k)
rows_of (ev_else_first u m e) k = rows_of u k
rows_of (ev_else_second u m v e) k = rows_of v k
rows_of (ev_star u e) k = rows_of u k
rows_of (ev_last_round u m e) k = []
rows_of (ev_round u m v e) k = rows_of u k ++ rows_of v k
rows_of (ev_not u e) k = []
rows_of (ev_call u e) k = rows_of u k
rows_of {p = p} {z = z} (ev_body {r} q u) k =
    if_matched z.matched (record { rule = r; depth = k; start = p; length = z.length } ∷ rows_of u (k + 1))
rows_of (ev_record q) k = []
