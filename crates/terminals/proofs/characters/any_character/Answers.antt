use Prim.Native.Nat.{ℕ, ◌<◌}
use native.Mathlib.Omega.{arith}
use borrow.Author.Tests.{ltb-true}
use mathlib.Core.List.{List}
use Rattle.grammar.specs.declared.node.Terminal.TheVariants.{Any}
use Rattle.grammar.specs.Characters.{Octets, later_bytes}
use Rattle.grammar.specs.Image.{byte_at}
use Rattle.grammar.proofs.Characters.{below_C2}
use Rattle.grammar.specs.Terminal.{continued}
use Rattle.records.specs.Words.{word_of}
use mathlib.Core.Path.{sym, ap, ◌∙◌}
use Rattle.terminals.proofs.TerminalWords.{end_word, none_there, byte_there}
use Rattle.terminals.proofs.CharacterWords.{goes_by_first, one_byte}
use Rattle.terminals.proofs.characters.any_character.Goals as goal

pub returns-in_default : goal.returns-in_default
returns-in_default c =
    let a = c.args in
    end_word Any a.text.now a.at (none_there a.text.now a.at (sym c.byte_at.ensures ∙ c.in_default.is))

pub returns-then-is_ascii : goal.returns-then-is_ascii
returns-then-is_ascii c =
    let a = c.args in
    let read = byte_there a.text.now a.at (sym c.byte_at.ensures ∙ c.in-Some.is) in
    let low : c.in-Some.first < 0x80 = ltb-true c.in-Some.first 0x80 (sym c.is_ascii.ensures ∙ c.if-is_ascii.true) in
    one_byte a.text.now a.at
    ∙ sym
    (ap word_of
    (goes_by_first a.text.now a.at read.0
    ∙ ap (λ (later : List Octets). continued later a.text.now a.at 1) (below_C2 (byte_at a.text.now a.at) (omega (arith, low, read.1)))))

pub by_first-requires : goal.by_first-requires
by_first-requires c = (byte_there c.args.text.now c.args.at (sym c.byte_at.ensures ∙ c.in-Some.is)).0

pub returns : goal.returns
returns c =
    let a = c.args in
    let read = byte_there a.text.now a.at (sym c.byte_at.ensures ∙ c.in-Some.is) in
    c.by_first.ensures
    ∙ ap (λ (byte : ℕ). word_of (continued (later_bytes byte) a.text.now a.at 1)) read.1
    ∙ sym (ap word_of (goes_by_first a.text.now a.at read.0))
