-- `fill` meets its contract, by the law of the opened text. Assumes nothing.
use Rattle.text.proofs.TextLaw.{fill_is}
use Rattle.text.proofs.fill.Goals as goal

pub returns : goal.returns
returns c =
    fill_is c.args.buffer.now c.args.text.now _ _ c.requires c.copy.ensures (c.fill.ensures.after (λ y e. e))
