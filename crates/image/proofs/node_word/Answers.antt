use native.Mathlib.Omega.{arith}
use mathlib.Core.Path.{sym}
use Rattle.grammar.specs.Image.{rules, node_word}
use Rattle.image.proofs.PastTheEnd.{past_nodes}
use Rattle.image.proofs.node_word.Goals as goal

pub returns-then-image-node : goal.returns-then-image-node
returns-then-image-node c = sym (past_nodes c.args.image.now c.args.node c.if-image-node.true)

pub overflow_mul-header_of : goal.overflow_mul-header_of
unfolding rules
overflow_mul-header_of c = omega (arith, c.header_of.ensures.its_rules)

pub overflow_add-header_of : goal.overflow_add-header_of
unfolding rules
overflow_add-header_of c = omega (arith, c.header_of.ensures.its_rules)

pub overflow_add-header_of-2 : goal.overflow_add-header_of-2
unfolding rules
overflow_add-header_of-2 c = omega (arith, c.header_of.ensures.its_rules)

pub returns : goal.returns
unfolding node_word
returns c = cc
