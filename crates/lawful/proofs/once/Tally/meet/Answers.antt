use native.Mathlib.Omega.{arith}
use Rattle.lawful.proofs.Tallies.{tallied_one}
use Rattle.lawful.proofs.once.Tally.meet.Goals as goal

pub returns-clause-met : goal.returns-clause-met
returns-clause-met c = tallied_one c.args.self.now.counts c.args.n _ (omega arith) (omega (arith, c.saturating_add.ensures))
