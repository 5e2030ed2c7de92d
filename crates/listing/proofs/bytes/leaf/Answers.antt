use mathlib.Core.Path.{sym, ap, ◌∙◌}
use Prim.Native.Nat.{ℕ}
use Rattle.terminals.proofs.CharacterWords.{ascii_taken}
use Rattle.records.specs.Words.{value_of}
use Rattle.listing.specs.Gives.{told_length}
use Rattle.listing.proofs.Terminals.{says_terminal}
use Rattle.listing.proofs.bytes.leaf.Goals as goal

pub returns-then-is_ascii : goal.returns-then-is_ascii
returns-then-is_ascii c =
    let a = c.args in
    rw c.in-Any.is (sym (ap told_length (ascii_taken a.text.now a.at (sym c.is_ascii.ensures ∙ c.if-is_ascii.true))))

pub returns : goal.returns
returns c =
    let a = c.args in
    c.told.ensures
    ∙ ap (λ (word : ℕ). told_length (value_of word)) c.terminal.ensures
    ∙ ap told_length (says_terminal a.terminal a.text.now a.at)
