-- What a loop over a lent slice leaves: one stretch of it is filled, all else is as it was.
use Rattle.std.specs.Prelude.{ℕ, ◌≤◌, ◌<◌, ◌≡◌, List, length, get_or}

-- The element at an index, 0 past the end.
abbrev pub at : List ℕ → ℕ → ℕ
at xs j = get_or xs j 0

-- From `old` to `new`: the element at each j from lo up to hi is f j, every other one is as it was, and so is the length.
pub record Filled (f : ℕ → ℕ) (old new : List ℕ) (lo hi : ℕ) : Type 0 where
  pub long : length new ≡ length old
  pub before : (j : ℕ) → j < lo → at new j ≡ at old j
  pub inside : (j : ℕ) → lo ≤ j → j < hi → at new j ≡ f j
  pub past : (j : ℕ) → hi ≤ j → at new j ≡ at old j
