-- Which node a word stands for, by the laws of each kind.
use Rattle.std.proofs.Common.{arith, sym, ap, ◌∙◌}
use Rattle.grammar.specs.declared.node.Node.TheVariants.{Text}
use Rattle.grammar.proofs.Nodes.{is_empty, is_any, is_range, is_sequence, is_choice, is_star, is_not, is_call, is_unlawful}
use Rattle.grammar.proofs.node.NodeFromNodeFields.from.Goals as goal

pub returns-in-0 : goal.returns-in-0
returns-in-0 c = sym (is_empty _ c.in-0.is)

pub returns-in-1 : goal.returns-in-1
returns-in-1 c = sym (is_any _ c.in-1.is)

pub returns-in-2 : goal.returns-in-2
returns-in-2 c = ap Text c.range.ensures ∙ sym (is_range _ c.in-2.is)

pub returns-in-3 : goal.returns-in-3
returns-in-3 c = sym (is_sequence _ c.in-3.is)

pub returns-in-4 : goal.returns-in-4
returns-in-4 c = sym (is_choice _ c.in-4.is)

pub returns-in-5 : goal.returns-in-5
returns-in-5 c = sym (is_star _ c.in-5.is)

pub returns-in-6 : goal.returns-in-6
returns-in-6 c = sym (is_not _ c.in-6.is)

pub returns-in-7 : goal.returns-in-7
returns-in-7 c = sym (is_call _ c.in-7.is)

pub returns-in_default : goal.returns-in_default
returns-in_default c = sym (is_unlawful _ (omega (arith, c)))

pub returns-in-8-to-15 : goal.returns-in-8-to-15
returns-in-8-to-15 c = sym (is_unlawful _ (omega (arith, c)))
