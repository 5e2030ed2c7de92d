-- A level of nesting more is a sum on the word, and the sum stays in a machine word. Assumes nothing.
use Prim.Native.Nat.{◌+◌, ◌*◌, ◌^◌, ◌<◌}
use native.Mathlib.Omega.{arith}
use mathlib.Core.Path.{◌≡◌}
use Rattle.grammar.specs.declared.Evaluation.{Evaluation}
use Rattle.grammar.specs.Evaluates.{taken_over}
use Rattle.grammar.proofs.Bools.{byte_small}
use Rattle.records.specs.Words.{word_of}

pub raised_word : (x : Evaluation) → word_of x + 8589934592 ≡ word_of (taken_over x)
unfolding word_of
raised_word x = omega arith

pub word_below :
    (x : Evaluation)
    → x.examined < 2 ^ 17
    → x.length < 2 ^ 16
    → word_of x < 2 ^ 63 + 2 ^ 62 + (x.nesting + 1) * 8589934592
unfolding word_of
word_below x e k =
    let b = byte_small x.matched in
    omega arith
