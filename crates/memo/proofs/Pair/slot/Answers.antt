use mathlib.Core.Path.{sym}
use Rattle.records.proofs.Slots.{in_row}
use Rattle.memo.proofs.Pair.slot.Goals as goal

pub returns : goal.returns
returns c = let pair = c.args.self in sym (in_row pair.rules pair.rule pair.position)
