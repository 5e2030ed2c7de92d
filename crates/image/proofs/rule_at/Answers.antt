use native.Mathlib.Omega.{arith}
use Rattle.grammar.specs.Image.{rule_word, rule_zero, root}
use Rattle.image.proofs.PastTheEnd.{past_rules}
use Rattle.image.proofs.rule_at.Goals as goal

pub returns-then-image-rule : goal.returns-then-image-rule
unfolding rule_zero root
returns-then-image-rule c =
    let e = past_rules c.args.image.now c.args.rule c.if-image-rule.true in
    record { its_zero = omega (arith, e); its_root = omega (arith, e) }

pub returns : goal.returns
unfolding rule_zero root rule_word
returns c = record { its_zero = cc; its_root = cc }
