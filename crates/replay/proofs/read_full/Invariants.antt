-- What is read so far has room, and with each round there is less of it.
use Rattle.std.proofs.Common.{◌≤◌, ◌-◌, length}
use Rattle.replay.proofs.read_full.Given as goal

abbrev pub invariant-loop-reader : goal.invariant-loop-reader
invariant-loop-reader l = l.length ≤ length l.input

abbrev pub decreases-loop-reader : goal.decreases-loop-reader
decreases-loop-reader l = length l.input - l.length
