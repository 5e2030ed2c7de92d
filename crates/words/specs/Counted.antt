-- What a loop over words fills and counts.
use Rattle.std.specs.Prelude.{ℕ, ◌≡◌, List}
use Rattle.buffers.specs.Filled.{Filled}
use Rattle.editing.specs.Held.{held_to}

-- A loop filled the words from lo up to hi by f, and c of the words held 0, held 1, .. are held, of as many as `count`.
pub record Counted (f : ℕ → ℕ) (old new : List ℕ) (lo hi : ℕ) (held : ℕ → ℕ) (count c : ℕ) : Type 0 where
  pub filled : Filled f old new lo hi
  pub counted : c ≡ held_to held count
