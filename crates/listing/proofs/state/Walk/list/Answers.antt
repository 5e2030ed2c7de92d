use Rattle.rows.specs.Walk.{start_v}
use Rattle.rows.proofs.Bounds.{start_bounded}
use Rattle.listing.proofs.Passes.{pass_counted}
use lib.ListN.{length}
use Rattle.listing.proofs.state.Walk.list.Goals as goal

pub returns-clause-passed : goal.returns-clause-passed
unfolding start_v
returns-clause-passed c =
    let w = c.args.self.now in
    pass_counted (start_bounded w.room w.grammar.now w.text.now w.table.now 0 (length w.text.now))
    (rw c.requires at c.walk_rule.ensures.gives) c.in_ok-walk_rule.was
