-- Which words an edit keeps at their place before s, word by word and row by row. Assumes nothing.
use Prim.Native.Nat.{ℕ, ◌≤◌}
use mathlib.Core.Path.{◌≡◌}
use mathlib.Core.Bool.{true, false}
use borrow.Author.Tests.{le-leb}
use Rattle.records.specs.Words.{is_held, examined_of}
use Rattle.editing.specs.Held.{kept_word}

-- A held word that examined little is kept.
pub kept : (limit w : ℕ) → is_held w ≡ true → examined_of w ≤ limit → kept_word limit w ≡ w
unfolding kept_word
kept limit w h l = simp (h, le-leb (examined_of w) limit l)

-- A word that is not held is not.
pub kept_empty : (limit w : ℕ) → is_held w ≡ false → kept_word limit w ≡ 0
unfolding kept_word
kept_empty limit w h = simp h
