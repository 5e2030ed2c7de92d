use borrow.Author.Rules.{rules}
use Rattle.grammar.specs.Characters.{◌to◌, is_in}
use Rattle.terminals.proofs.TerminalWords.{tested}
use Rattle.terminals.proofs.characters.has_at.Goals as goal

pub returns : goal.returns
returns c =
    let a = c.args in
    tested (is_in (a.lowest to a.highest)) a.text.now a.place (λ byte k. search rules) c.has_at.ensures
