-- `keep_pieces` meets its contract: the rows of the pieces before `piece` are done. Assumes nothing.
use Prim.Native.Nat.{ℕ, ◌*◌}
use native.Mathlib.Omega.{arith}
use mathlib.Core.Path.{ap}
use Rattle.words.proofs.Turns.{counted_all}
use Rattle.front.proofs.Pieces.{cut_out, all_done}
use Rattle.front.proofs.Rows.{piece_done, piece_stays, piece_counts}
use Rattle.front.proofs.+keep_pieces.Goals as goal
use Rattle.front.proofs.+keep_pieces.Goals.{in-Some, in-None}

pub slice_bounds-words-end : goal.slice_bounds-words-end
slice_bounds-words-end t c =
    let P = cut_out c.args.rules c.args.rows _ c.loop-piece.piece (c.requires.3 0 0 (omega arith)) c.div_ceil-piece-end.ensures
    c.loop-piece-test.true c.min-next.ensures in
    omega (arith, P.room)

pub overflow_add-c : goal.overflow_add-c
overflow_add-c t c =
    let P = cut_out c.args.rules c.args.rows _ c.loop-piece.piece (c.requires.3 0 0 (omega arith)) c.div_ceil-piece-end.ensures
    c.loop-piece-test.true c.min-next.ensures in
    elim c.match-held_if_all_stay.branch [
      | in-Some w ↦
          omega (
            arith,
            piece_counts c.args.s P w.c-is c.loop-piece.invariant
                (piece_stays c.args.s c.loop-piece.part (omega arith) (omega arith) (omega arith) P w.in-Some.ensures),
          )
      | in-None w ↦ omega (arith, piece_counts c.args.s P w.c-is c.loop-piece.invariant w.keep_pieces.ensures)
    ]

pub loop-piece-preserved : goal.loop-piece-preserved
loop-piece-preserved t c =
    let P = cut_out c.args.rules c.args.rows _ c.loop-piece.piece (c.requires.3 0 0 (omega arith)) c.div_ceil-piece-end.ensures
    c.loop-piece-test.true c.min-next.ensures in
    elim c.match-held_if_all_stay.branch [
      | in-Some w ↦
          piece_done c.args.s (omega arith) (omega arith) P w.part-is w.c-is c.loop-piece.invariant
          (piece_stays c.args.s c.loop-piece.part (omega arith) (omega arith) (omega arith) P w.in-Some.ensures)
      | in-None w ↦ piece_done c.args.s (omega arith) (omega arith) P w.part-is w.c-is c.loop-piece.invariant w.keep_pieces.ensures
    ]

pub returns : goal.returns
returns t c =
    let all = all_done c.args.rows _ c.loop-piece.piece _ (c.requires.3 0 0 (omega arith)) c.div_ceil-piece-end.ensures
    c.loop-piece-test.false in
    counted_all c.loop-piece.invariant (ap (λ (x : ℕ). x * c.args.rules) all)
