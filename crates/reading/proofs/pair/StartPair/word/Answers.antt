use Rattle.std.proofs.Common.{sym, ◌∙◌}
use Rattle.packrat.proofs.Start.{start_met, start_refused, start_stored}
use Rattle.grammar.proofs.Refusals.{left_with}
use Rattle.reading.proofs.pair.StartPair.word.Goals as goal

pub returns-then-is_held-clause-word : goal.returns-then-is_held-clause-word
returns-then-is_held-clause-word c =
    let header = c.header_of-header.ensures in
    start_met _ _ _ _ (rw (header.its_rules, header.its_start) at c.look-word.ensures) (sym c.is_held.ensures ∙ c.if-is_held.true) c.met.ensures

pub returns-in_err-value-clause-word : goal.returns-in_err-value-clause-word
returns-in_err-value-clause-word c =
    let header = c.header_of-header.ensures in
    rw (left_with c.from_residual.ensures)
    (start_refused _ _ _ _ (rw (header.its_rules, header.its_start) at c.look-word.ensures) c.args.self.now.short (sym c.is_held.ensures ∙ c.if-is_held.false) c.in_err-value.ensures.body)

pub returns-clause-word : goal.returns-clause-word
returns-clause-word c =
    let header = c.header_of-header.ensures in
    rw (c.put.ensures, header.its_rules, header.its_start)
    (start_stored _ _ _ _ (rw (header.its_rules, header.its_start) at c.look-word.ensures) c.args.self.now.short (sym c.is_held.ensures ∙ c.if-is_held.false) c.in_ok-value.ensures.body)
