-- How the nesting allowance decides a run without records.
use Rattle.grammar.specs.declared.refusal.Refusal.TheVariants.{Nesting}
use Rattle.std.specs.Prelude.{ℕ, ◌≤◌, ◌<◌, ◌≡◌, []}
use Rattle.grammar.specs.declared.Evaluation.{Evaluation}
use Rattle.packrat.specs.Model.{answered, refused, Out, out}

-- A run over no table, with an allowance, where the evaluation is z: it ends with z exactly where the allowance covers its nesting, and
-- otherwise with 14. Either way it has counted some pairs.
pub data Ends (left : ℕ) (z : Evaluation) (o : Out) : Type 0 where
  covered : z.nesting ≤ left → (count : ℕ) → o ≡ out (answered z) [] count → Ends left z o
  too_deep : left < z.nesting → (count : ℕ) → o ≡ out (refused Nesting) [] count → Ends left z o
