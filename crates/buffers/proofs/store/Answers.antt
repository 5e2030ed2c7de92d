use lib.Seq.{set_out}
use mathlib.Core.Path.{sym}
use Rattle.buffers.proofs.store.Goals as goal

pub returns-else-slot-part : goal.returns-else-slot-part
returns-else-slot-part c = sym (set_out c.args.part.now c.args.slot c.args.word c.if-slot-part.false)
