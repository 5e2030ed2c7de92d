use Rattle.image.proofs.SameFields.{fields_at_lem}
use Rattle.image.proofs.node_at.Goals as goal

pub returns : goal.returns
returns c =
    fields_at_lem c.args.image.now c.args.node c.node_word.ensures c.node_of.ensures
