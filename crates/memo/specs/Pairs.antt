-- Which pairs the memo takes: a rule that a node's field can name and a position of a text, in a grammar whose number of rules is a word of
-- 32 bits. Their slots are computed without overflow.
use Rattle.std.specs.Prelude.{ℕ, ◌<◌, ◌≤◌, ◌^◌}

abbrev pub IsPair : (rules rule position : ℕ) → Type 0
IsPair rules rule position = (rules < 2 ^ 32) × (rule < 4096) × (position ≤ 65535)
