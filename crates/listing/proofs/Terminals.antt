-- What the terminals tell: the word of a terminal's evaluation says that evaluation. Assumes nothing.
use Prim.Native.Nat.{ℕ}
use native.Mathlib.Omega.{arith}
use mathlib.Core.Path.{◌≡◌}
use mathlib.Core.List.{List}
use Rattle.grammar.specs.declared.node.Terminal.{Terminal}
use Rattle.grammar.specs.Terminal.{terminal_at}
use Rattle.grammar.proofs.Terminals.{at_most_four}
use Rattle.records.specs.Words.{value_of, word_of}
use Rattle.records.proofs.Codec.{value_back}

pub says_terminal : (t : Terminal) (text : List ℕ) (p : ℕ) → value_of (word_of (terminal_at t text p)) ≡ terminal_at t text p
says_terminal t text p =
    let f = at_most_four t text p in
    value_back (terminal_at t text p)
    (record { nesting_fits = omega (arith, f.no_depth); examined_fits = omega (arith, f.few_examined); length_fits = omega (arith, f.few_taken) })
