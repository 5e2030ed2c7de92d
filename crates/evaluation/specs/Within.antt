-- The shape of an evaluation at position p of a text of n bytes.
use Rattle.std.specs.Prelude.{ℕ, ◌+◌, ◌≤◌, ◌≡◌, false}
use Rattle.grammar.specs.declared.Evaluation.{Evaluation}

pub record Within (n p : ℕ) (x : Evaluation) : Type 0 where
  pub in_text : p + x.length ≤ n
  pub up_to_end : p + x.examined ≤ n + 1
  pub in_examined : x.length ≤ x.examined
  pub failure : x.matched ≡ false → x.length ≡ 0
  pub nested : 1 ≤ x.nesting
