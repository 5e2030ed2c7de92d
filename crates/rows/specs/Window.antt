-- A window from lo to hi, and the rows that it touches. In a text of n bytes the window (0, n) touches all rows, and (n + 1, 0) none.
use Rattle.std.specs.Prelude.{ℕ, ◌+◌, Bool, true, false, ◌&&◌, List, [], ◌∷◌, leb}
use Rattle.rows.specs.Rows.{Row, row_word}

-- Whether the window touches what starts at `at` and has that length.
unfoldable pub touches : (lo hi at len : ℕ) → Bool
touches lo hi at len = leb at hi && leb lo (at + len)

abbrev pub word_if : Bool → ℕ → List ℕ → List ℕ
word_if true w ws = w ∷ ws
word_if false w ws = ws

-- The words of the rows that the window touches.
unfoldable pub shown : (lo hi : ℕ) → List Row → List ℕ
shown lo hi [] = []
shown lo hi (r ∷ rs) = word_if (touches lo hi r.start r.length) (row_word r) (shown lo hi rs)
