-- The test of a byte range.
use Rattle.std.specs.Prelude.{ℕ, Bool, ◌&&◌, leb}

-- Both ends included.
abbrev pub between : (from to byte : ℕ) → Bool
between from to byte = leb from byte && leb byte to
