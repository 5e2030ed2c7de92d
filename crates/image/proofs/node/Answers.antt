use mathlib.Core.Path.{ap, ◌∙◌}
use Rattle.grammar.specs.Image.{node_of}
use Rattle.image.proofs.SameFields.{same_record}
use Rattle.image.proofs.node.Goals as goal

pub returns : goal.returns
returns c = c.from.ensures ∙ ap node_of (same_record c.node_at.ensures)
