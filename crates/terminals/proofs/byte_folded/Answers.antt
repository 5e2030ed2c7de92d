use borrow.Author.Rules.{rules}
use Rattle.grammar.proofs.Terminals.{folded_alone}
use Rattle.grammar.specs.declared.node.Terminal.TheVariants.{Folded}
use Rattle.grammar.specs.Image.{byte_at}
use Rattle.grammar.specs.Terminal.{accepts}
use Rattle.terminals.proofs.TerminalWords.{tested, byte_word}
use Rattle.terminals.proofs.byte_folded.Goals as goal

pub returns : goal.returns
unfolding accepts
returns c =
    let a = c.args in
    byte_word (Folded a.from a.to) a.text.now a.at (folded_alone a.from a.to (byte_at a.text.now a.at))
    (tested (accepts (Folded a.from a.to)) a.text.now a.at (λ byte k. search rules) c.has_at.ensures)
    c.one_byte.ensures
