use Rattle.std.proofs.Common.{ℕ, ◌<◌, ◌≡◌, get_or, []}
use Rattle.rounds.specs.Sets.{bit, pack, then_set, else_set, star_set, not_set}
use Rattle.visits.specs.declared.table.TheConstants.{SETS}
use Rattle.visits.specs.Sets.{set_of_kind}
use Rattle.visits.proofs.Tables.{in_table}
use Rattle.visits.proofs.table.set_of_kind.Goals as goal

-- Every entry is the set of its kind, row and column.
entry : (kind a b : ℕ) → kind < 8 → a < 8 → b < 8 → get_or (get_or (get_or SETS kind []) b []) a 0 ≡ set_of_kind kind a b
unfolding bit pack then_set else_set star_set not_set set_of_kind
entry = in_table set_of_kind

pub returns : goal.returns
returns c =
    let known = entry c.args.kind c.args.a c.args.b c.requires.0 c.requires.1 c.requires.2 in
    cc
