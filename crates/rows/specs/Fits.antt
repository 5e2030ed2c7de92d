-- How a walk ends over true records: with the rows' words where they fit, and with 15 exactly where they do not.
use Rattle.grammar.specs.declared.refusal.Refusal.TheVariants.{Rows}
use Rattle.std.specs.Prelude.{ℕ, ◌+◌, ◌≤◌, ◌<◌, ◌≡◌, Bool, List, length}
use Rattle.rows.specs.Walk.{walked, stopped, Trail, trail}

-- A walk of what matched or failed with a length and has the rows with those words, where c rows stand before it and `room` fit.
pub data Fits (room c : ℕ) (matched : Bool) (len : ℕ) (ws : List ℕ) (o : Trail) : Type 0 where
  rows_fit : c + length ws ≤ room → o ≡ trail (walked matched len (c + length ws)) ws → Fits room c matched len ws o
  too_many : room < c + length ws → (e : List ℕ) → o ≡ trail (stopped Rows) e → Fits room c matched len ws o
