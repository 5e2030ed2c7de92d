use Rattle.rounds.proofs.Bits.{union_small}
use Rattle.visits.proofs.Unions.{joined}
use Rattle.visits.proofs.sets.join.Goals as goal

pub returns : goal.returns
returns c = (joined c.args.a c.args.b, rw (joined c.args.a c.args.b) (union_small c.args.a c.args.b))
