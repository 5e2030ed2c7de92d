use native.Mathlib.Omega.{arith}
use mathlib.Core.Path.{ap, ◌∙◌}
use Prim.Native.Nat.{ℕ, ◌+◌}
use Rattle.records.specs.Words.{value_of}
use Rattle.records.proofs.Codec.{examined_small, length_small}
use Rattle.answers.proofs.Raised.{raised_word, word_below}
use Rattle.answers.proofs.taken_over.Goals as goal

pub overflow_add-result : goal.overflow_add-result
unfolding value_of
overflow_add-result c =
    let w = word_below (value_of c.args.x) (examined_small c.args.x) (length_small c.args.x) in
    omega (arith, w, c.requires.0, c.requires.1)

pub returns : goal.returns
returns c =
    ap (λ (j : ℕ). j + 8589934592) c.requires.0 ∙ raised_word (value_of c.args.x)
