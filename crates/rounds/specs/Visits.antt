-- A visit of one node: what it gains from what the nodes before it have.
use Rattle.std.specs.Prelude.{ℕ, Bool, true, false, not, ◌&&◌, ◌||◌, List, get_or, set}
use Rattle.grammar.specs.declared.node.Node.{Node}
use Rattle.grammar.specs.declared.node.Node.TheVariants.{Empty, Text, Sequence, Choice, Star, NotPredicate, Call, Unlawful}
use Rattle.grammar.specs.Image.{node, root}
use Rattle.grammar.specs.Outcomes.{matches_empty}
use Rattle.rounds.specs.Sets.{bit, union, then_set, else_set, star_set, not_set}

-- The outcomes that a node gains from the sets known so far.
unfoldable pub gathered : (img known : List ℕ) → Node → ℕ
gathered img known Empty = 1
gathered img known (Text t) = 6
gathered img known (Sequence a b) = then_set (get_or known a 0) (get_or known b 0)
gathered img known (Choice a b) = else_set (get_or known a 0) (get_or known b 0)
gathered img known (Star a) = star_set (get_or known a 0)
gathered img known (NotPredicate a) = not_set (get_or known a 0)
gathered img known (Call r) = get_or known (root img r) 0
gathered img known Unlawful = 0

-- Whether a node joins the well-formed set, from the nodes that are in it so far.
unfoldable pub formed_from : (img known : List ℕ) → List Bool → Node → Bool
formed_from img known formed Empty = true
formed_from img known formed (Text t) = true
formed_from img known formed (Sequence a b) = get_or formed a false && (not (bit matches_empty (get_or known a 0)) || get_or formed b false)
formed_from img known formed (Choice a b) = get_or formed a false && get_or formed b false
formed_from img known formed (Star a) = get_or formed a false && not (bit matches_empty (get_or known a 0))
formed_from img known formed (NotPredicate a) = get_or formed a false
formed_from img known formed (Call r) = get_or formed (root img r) false
formed_from img known formed Unlawful = false

-- A visit of node n joins what it gains to its set,
unfoldable pub gather_at : (img known : List ℕ) → ℕ → List ℕ
gather_at img known n = set known n (union (get_or known n 0) (gathered img known (node img n)))

-- or to the well-formed set.
unfoldable pub join_at : (img known : List ℕ) → List Bool → ℕ → List Bool
join_at img known formed n = set formed n (get_or formed n false || formed_from img known formed (node img n))
