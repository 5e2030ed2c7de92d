use Prim.Native.Nat.{◌<◌}
use native.Mathlib.Omega.{arith}
use mathlib.Core.Path.{◌≡◌, sym, ap, ◌∙◌}
use Rattle.grammar.specs.Image.{root, node_of, fields_of}
use Rattle.grammar.specs.declared.node.Node.TheVariants.{Call}
use Rattle.grammar.proofs.Nodes.{is_call, kind_of_call, rule_of_call}
use Rattle.image.proofs.SameFields.{same_record}
use Rattle.image.proofs.Linked.{root_small, own_word, call_word}
use Rattle.image.proofs.linked_word.Goals as goal

pub returns-in_default : goal.returns-in_default
returns-in_default c =
    let same = same_record c.node_of-fields.ensures in
    own_word c.args.image.now c.args.word
    (λ e. c.in_default.not-Call _ (c.from.ensures ∙ ap node_of same ∙ is_call (fields_of c.args.word) e))

pub overflow_add-result : goal.overflow_add-result
overflow_add-result c =
    let small : c.rule_at-body.result.root < 4096 = rw c.rule_at-body.ensures.its_root (root_small _ _) in
    omega arith

pub overflow_cast-result-2 : goal.overflow_cast-result-2
overflow_cast-result-2 c =
    let small : c.rule_at-body.result.root < 4096 = rw c.rule_at-body.ensures.its_root (root_small _ _) in
    omega arith

pub returns : goal.returns
returns c =
    let same = same_record c.node_of-fields.ensures in
    let calls : node_of (fields_of c.args.word) ≡ Call c.in-Call.rule = sym (c.in-Call.ensures ∙ ap node_of same) in
    let its_root = c.rule_at-body.ensures.its_root ∙ ap (root c.args.image.now) (sym (rule_of_call (fields_of c.args.word) calls)) in
    omega (arith, its_root, call_word c.args.image.now c.args.word (kind_of_call (fields_of c.args.word) calls))
