-- Two words whose evaluations can follow each other in a text of at most 65,535 bytes.
use Rattle.std.specs.Prelude.{ℕ, ◌+◌, ◌≤◌}
use Rattle.records.specs.Words.{nesting_of, examined_of, length_of}

pub record Joinable (x y : ℕ) : Type 0 where
  pub first_nesting : nesting_of x ≤ 4096
  pub second_nesting : nesting_of y ≤ 4096
  pub lengths : length_of x + length_of y ≤ 65535
  pub reach : length_of x + examined_of y ≤ 65536
