-- The order in which a round visits the nodes, as a list of them: any order does that names only nodes and each of them once.
use Rattle.std.specs.Prelude.{ℕ, zero, suc, ◌<◌, ◌≡◌, List, [], ◌∷◌, length, get_or}

pub record VisitsAll (count : ℕ) (order : List ℕ) : Type 0 where
  pub as_long : length order ≡ count
  pub only_nodes : (i : ℕ) → i < length order → get_or order i 0 < count
  -- the place in the order at which a round visits node n
  pub place : (n : ℕ) → n < count → ℕ
  pub in_round : (n : ℕ) (l : n < count) → place n l < length order
  pub visits : (n : ℕ) (l : n < count) → get_or order (place n l) 0 ≡ n

-- The nodes from the highest down to 0.
unfoldable pub descending : ℕ → List ℕ
descending zero = []
descending (suc n) = n ∷ descending n
