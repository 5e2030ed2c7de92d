-- The outcome sets of a node by its kind.
use Rattle.std.specs.Prelude.{ℕ, ◌<◌, List, [], ◌∷◌, get_or}
use Rattle.rounds.specs.Sets.{then_set, else_set, star_set, not_set}

-- The outcomes of a node of kind 0 to 7 from the sets a of its A and b of its B. Those of a call are its root's, here b.
unfoldable pub set_of_kind : (kind a b : ℕ) → ℕ
set_of_kind kind a b = get_or (1 ∷ 6 ∷ 6 ∷ then_set a b ∷ else_set a b ∷ star_set a ∷ not_set a ∷ b ∷ []) kind 0

-- Every entry is a set.
abbrev pub OnlySets : List ℕ → Type 0
OnlySets known = (n : ℕ) → get_or known n 0 < 8
