-- Question 5's counts: how often each node was met, 2 standing for 2 or more.
use Rattle.std.specs.Prelude.{ℕ, ◌+◌, min, ◌≡◌, List, length, get_or}
use Rattle.grammar.specs.Image.{rules, nodes}
use Rattle.grammar.specs.Questions.{roots, children_below, occurrences}

-- The counts after are those before with the numbers of ms counted too.
pub record Tallied (before after ms : List ℕ) : Type 0 where
  pub as_long : length after ≡ length before
  pub counts : (n : ℕ) → min 2 (get_or after n 0) ≡ min 2 (get_or before n 0 + occurrences n ms)

pub record RootsTallied (img before after : List ℕ) : Type 0 where
  pub all_rules : Tallied before after (roots img (rules img))

pub record ChildrenTallied (img before after : List ℕ) : Type 0 where
  pub all_nodes : Tallied before after (children_below img (nodes img))
