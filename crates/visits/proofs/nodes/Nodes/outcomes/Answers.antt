use mathlib.Core.Path.{◌∙◌}
use Rattle.visits.proofs.ByKind.{gathers_by_kind}
use Rattle.visits.proofs.nodes.Nodes.outcomes.Goals as goal

pub returns : goal.returns
returns c =
    let lawful = c.args.self.now.lawful.words.node_words c.args.n c.requires.0 in
    c.set_of_kind.ensures ∙ gathers_by_kind c.args.self.now.image.now c.args.known.now lawful.known_kind c.fields-fields.ensures
