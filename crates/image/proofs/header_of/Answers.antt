use Rattle.grammar.specs.Image.{edition, rules, nodes, start}
use Rattle.image.proofs.header_of.Goals as goal

pub returns : goal.returns
unfolding edition rules nodes start
returns c = record { its_edition = cc; its_rules = cc; its_nodes = cc; its_start = cc }
