-- How rows are cut into pieces of one size. Assumes nothing.
use Prim.Native.Nat.{ℕ, ◌+◌, ◌-◌, ◌*◌, ◌≤◌, ◌<◌, min}
use native.Mathlib.Omega.{arith}
use native.Mathlib.Nat.{mul-le-mul_right}
use mathlib.Core.Path.{◌≡◌}
use Rattle.std.specs.Int.{div_ceil}
use Rattle.std.proofs.lemmas.Grind.{div_ceil_times}
use Rattle.records.proofs.Slots.{rows_room}

-- A piece of rows of R words begins at row piece × size and has `next` rows: as many as are left, and at most `size`.
pub record Piece (R rows size piece next : ℕ) : Type 0 where
  pub some : 1 ≤ next
  pub fits : piece * size + next ≤ rows
  pub room : piece * size * R + next * R ≤ rows * R
  pub begins : min (piece * size) rows ≡ piece * size
  pub ends : min ((piece + 1) * size) rows ≡ piece * size + next

pub cut_out :
    {next pieces : ℕ} (R rows size piece : ℕ) → 1 ≤ size → pieces ≡ div_ceil rows size → piece < pieces
    → next ≡ min (rows - piece * size) size
    → Piece R rows size piece next
cut_out {next} {pieces} R rows size piece h e l m =
    let most = div_ceil_times rows size (omega arith) in
    let last : (piece + 1) * size ≤ div_ceil rows size * size = mul-le-mul_right size (omega arith) in
    let before : piece * size < rows = omega (arith, most.1) in
    record {
      some = omega arith;
      fits = omega arith;
      room = rows_room R (piece * size) next rows (omega arith);
      begins = omega arith;
      ends = omega arith;
    }

-- After the last piece all rows are done.
pub all_done : (rows size piece pieces : ℕ) → 1 ≤ size → pieces ≡ div_ceil rows size → pieces ≤ piece → min (piece * size) rows ≡ rows
all_done rows size piece pieces h e l =
    let most = div_ceil_times rows size (omega arith) in
    let last : div_ceil rows size * size ≤ piece * size = mul-le-mul_right size (omega arith) in
    omega (arith, most.0)
