use Rattle.terminals.proofs.CharacterWords.{one_of_two, two_bytes, one_of_three, three_bytes, one_of_four, four_bytes}
use Rattle.grammar.specs.Characters.{◌to◌}
use native.Mathlib.Omega.{arith}
use mathlib.Core.Path.{sym, ◌∙◌}
use Rattle.terminals.proofs.characters.from_first.Goals as goal

pub returns-then-not-has_at : goal.returns-then-not-has_at
returns-then-not-has_at c =
    let a = c.args in
    one_of_two a.text.now a.at a.later (a.lowest to a.highest) (sym c.has_at.ensures ∙ c.if-not-has_at.true)

pub returns-then-later-eq1 : goal.returns-then-later-eq1
returns-then-later-eq1 c =
    let a = c.args in
    two_bytes a.text.now a.at a.later (a.lowest to a.highest) c.if-later-eq1.true (sym c.has_at.ensures ∙ c.if-not-has_at.false)

pub returns-then-not-has_at-2 : goal.returns-then-not-has_at-2
returns-then-not-has_at-2 c =
    let a = c.args in
    one_of_three a.text.now a.at a.later (a.lowest to a.highest) (omega (arith, c.requires, c.if-later-eq1.false))
    (sym c.has_at.ensures ∙ c.if-not-has_at.false)
    (sym c.has_at-2.ensures ∙ c.if-not-has_at-2.true)

pub returns-then-later-eq2 : goal.returns-then-later-eq2
returns-then-later-eq2 c =
    let a = c.args in
    three_bytes a.text.now a.at a.later (a.lowest to a.highest) c.if-later-eq2.true (sym c.has_at.ensures ∙ c.if-not-has_at.false)
    (sym c.has_at-2.ensures ∙ c.if-not-has_at-2.false)

pub returns-then-not-has_at-3 : goal.returns-then-not-has_at-3
returns-then-not-has_at-3 c =
    let a = c.args in
    one_of_four a.text.now a.at a.later (a.lowest to a.highest) (omega (arith, c.requires, c.if-later-eq1.false, c.if-later-eq2.false))
    (sym c.has_at.ensures ∙ c.if-not-has_at.false)
    (sym c.has_at-2.ensures ∙ c.if-not-has_at-2.false)
    (sym c.has_at-3.ensures ∙ c.if-not-has_at-3.true)

pub returns : goal.returns
returns c =
    let a = c.args in
    four_bytes a.text.now a.at a.later (a.lowest to a.highest) (omega (arith, c.requires, c.if-later-eq1.false, c.if-later-eq2.false))
    (sym c.has_at.ensures ∙ c.if-not-has_at.false)
    (sym c.has_at-2.ensures ∙ c.if-not-has_at-2.false)
    (sym c.has_at-3.ensures ∙ c.if-not-has_at-3.false)
