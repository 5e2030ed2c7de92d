-- `staying_row` meets its contract: the words of the row are copied, and then those kept that examined nothing. Assumes nothing.
use native.Mathlib.Omega.{arith}
use mathlib.Core.Path.{ap, ◌∙◌}
use lib.ListN.{length}
use lib.Seq.{get_or-take, length-take-le}
use Rattle.buffers.proofs.Parts.{joined_first}
use Rattle.buffers.specs.Filled.{at}
use Rattle.editing.specs.Held.{kept_word}
use Rattle.back.proofs.staying_row.Goals as goal

pub returns : goal.returns
returns c =
    let long = ap length c.copy_from_slice.ensures.after ∙ length-take-le c.args.rules c.args.part.now (omega arith) in
    record {
      stay = λ rule h.
          c.keep_row.ensures.filled.inside rule (omega arith) (omega arith)
          ∙ ap
          (kept_word 0)
          (joined_first c.copy_from_slice.new.self _ c.args.rules rule long h
          ∙ ap (λ xs. at xs rule) c.copy_from_slice.ensures.after
          ∙ get_or-take c.args.rules c.args.part.now rule 0 h);
    }
