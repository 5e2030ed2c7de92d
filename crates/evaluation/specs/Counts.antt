-- Counting pairs.
use Rattle.std.specs.Prelude.{ℕ, zero, suc, ◌+◌, Bool}
use Rattle.grammar.specs.Questions.{one_if}

-- f 0 + .. + f (n − 1).
unfoldable pub sum_to : (n : ℕ) → (f : ℕ → ℕ) → ℕ
sum_to zero f = 0
sum_to (suc n) f = sum_to n f + f n

-- How many pairs with a rule below the number of rules and a position below the number of positions pass the test: position by
-- position, rule by rule.
abbrev pub count_pairs : (rules positions : ℕ) → (ℕ → ℕ → Bool) → ℕ
count_pairs rules positions test = sum_to positions (λ q. sum_to rules (λ r. one_if (test r q)))
