-- `carry_in` meets its contract: i words are carried, and c of them are held. Assumes nothing.
use Rattle.std.proofs.Common.{rules}
use native.Mathlib.Omega.{arith}
use denote.Param.{number}
use Rattle.back.specs.contracts.carry_in.{UP-type}
use Rattle.back.proofs.Turns.{carried_more, carried_few}
use Rattle.back.proofs.carry_in.Goals as goal
use Rattle.back.proofs.carry_in.Goals.{then-this-ne0, else-this-ne0}

pub overflow_add-c : goal.overflow_add-c
overflow_add-c g c =
    let few = carried_few (UP-type (number g.row.UP)) c.loop-i.invariant (omega arith) in
    omega arith

pub loop-i-preserved : goal.loop-i-preserved
loop-i-preserved g c =
    elim c.if-this-ne0.branch [
      | then-this-ne0 w ↦
          carried_more (UP-type (number g.row.UP)) c.loop-i.invariant c.requires.order c.loop-i-test.true c.requires.in_bounds.0
          c.requires.in_bounds.1
          (λ up. w.slot-is, λ down. absurd (search rules)) c.held_bit-c.ensures.0 c.only_held.ensures
      | else-this-ne0 w ↦
          carried_more (UP-type (number g.row.UP)) c.loop-i.invariant c.requires.order c.loop-i-test.true c.requires.in_bounds.0
          c.requires.in_bounds.1
          (λ up. absurd (search rules), λ down. w.slot-is) c.held_bit-c.ensures.0 c.only_held.ensures
    ]
