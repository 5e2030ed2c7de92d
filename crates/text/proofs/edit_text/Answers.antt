-- `edit_text` meets its contract, by the law of the edited text. Assumes nothing.
use Rattle.text.proofs.TextLaw.{edited_by}
use Rattle.text.proofs.edit_text.Goals as goal

pub returns-clause-text_after : goal.returns-clause-text_after
returns-clause-text_after c =
    let at = c.args.edit.now in
    edited_by c.args.text.now c.args.r.now at.n at.s at.e c.requires _ _ c.gone.ensures c.behind-behind.ensures _ _ _ c.shift.ensures
    c.copy.ensures
    (c.fill.ensures.after (λ y e. e))
