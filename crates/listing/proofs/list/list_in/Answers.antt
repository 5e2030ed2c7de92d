use Rattle.grammar.proofs.Refusals.{left_with}
use lib.ListN.{length}
use Rattle.std.proofs.Common.{rules}
use Rattle.rows.proofs.Bounds.{start_bounded}
use Rattle.listing.proofs.Passes.{refused, listed}
use Rattle.listing.proofs.list.list_in.Goals as goal

pub returns-in_err-list : goal.returns-in_err-list
returns-in_err-list c =
    let a = c.args in
    rw (left_with c.from_residual.ensures)
    (refused (start_bounded (length a.rows.now) a.grammar.now a.text.now a.table.now 0 (length a.text.now)) c.list.ensures.passed
    c.in_err-list.was)

pub returns : goal.returns
returns c =
    let a = c.args in
    listed (start_bounded (length a.rows.now) a.grammar.now a.text.now a.table.now 0 (length a.text.now)) c.list.ensures.passed
    c.in_ok-list.was c.list-2.ensures.passed (search rules)
