use Rattle.image.proofs.Linked.{linked}
use Rattle.image.proofs.SameFields.{same_record}
use Rattle.visits.proofs.nodes.Nodes.fields.Goals as goal

pub returns : goal.returns
returns c =
    let word = c.args.self.now.linked.word_of c.args.n c.requires in
    rw (same_record c.node_of.ensures, word) (linked c.args.self.now.image.now c.args.n)
