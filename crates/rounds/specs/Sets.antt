-- Outcome sets as numbers below 8: 1 for outcome 0, 2 for outcome 1, 4 for outcome f, added up.
use Rattle.std.specs.Prelude.{ℕ, ◌+◌, ◌*◌, ◌/◌, ◌%◌, Bool, false, ◌&&◌, ◌||◌, eqb}
use mir.Val.{bool_byte}
use Rattle.grammar.specs.Outcomes.{Outcome, matches_empty, consumes, fails}

-- Whether an outcome is in a set.
unfoldable pub bit : Outcome → ℕ → Bool
bit matches_empty set = eqb (set % 2) 1
bit consumes set = eqb (set / 2 % 2) 1
bit fails set = eqb (set / 4 % 2) 1

-- The set with just the outcomes that are told.
unfoldable pub pack : (stay consume fail : Bool) → ℕ
pack stay consume fail = bool_byte stay + 2 * bool_byte consume + 4 * bool_byte fail

unfoldable pub union : ℕ → ℕ → ℕ
union a b = pack (bit matches_empty a || bit matches_empty b) (bit consumes a || bit consumes b) (bit fails a || bit fails b)

-- "A then B: 0 if both have 0; 1 if A has 1 and B has 0 or 1, or A has 0 and B has 1; f if A has f, or A has 0 or 1 and B has f."
unfoldable pub then_set : ℕ → ℕ → ℕ
then_set a b =
    pack
    (bit matches_empty a && bit matches_empty b)
    (bit consumes a && (bit matches_empty b || bit consumes b) || bit matches_empty a && bit consumes b)
    (bit fails a || (bit matches_empty a || bit consumes a) && bit fails b)

-- "A else B: A's 0 and 1, and all of B's if A has f."
unfoldable pub else_set : ℕ → ℕ → ℕ
else_set a b =
    pack
    (bit matches_empty a || bit fails a && bit matches_empty b)
    (bit consumes a || bit fails a && bit consumes b)
    (bit fails a && bit fails b)

-- "Star: 1 if A has 1, 0 if A has f."
unfoldable pub star_set : ℕ → ℕ
star_set a = pack (bit fails a) (bit consumes a) false

-- "Not: f if A has 0 or 1, 0 if A has f."
unfoldable pub not_set : ℕ → ℕ
not_set a = pack (bit fails a) false (bit matches_empty a || bit consumes a)
