-- The pairs that stand after an edit, said of pairs and not of words.
use Rattle.std.specs.Prelude.{ℕ, ◌+◌, ◌-◌, Bool, ◌&&◌, ◌||◌, leb}
use Rattle.editing.specs.Text.{new_length}

-- "A pair at new position q stands exactly when q ≤ s, the pair was held at q, and q + examined ≤ s; or s + k ≤ q ≤ n' and the pair was
-- held at q − k + (e − s)." For one rule: `held` at each old position, `examined` there on the old text.
unfoldable pub stands_after : (held : ℕ → Bool) (examined : ℕ → ℕ) (n s e k q : ℕ) → Bool
stands_after held examined n s e k q =
    (leb q s && (held q && leb (q + examined q) s))
    || (leb (s + k) q && (leb q (new_length n s e k) && held (q - k + (e - s))))
