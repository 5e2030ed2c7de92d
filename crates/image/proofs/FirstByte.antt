-- What the first byte of a node's word tells. Assumes nothing.
use Prim.Native.Nat.{ℕ, ◌*◌, ◌/◌, ◌^◌, ◌<◌}
use native.Mathlib.Omega.{arith}
use mathlib.Core.Path.{◌≡◌}
use Rattle.grammar.specs.Image.{fields_of}

-- Where the zero bits are 0 it is the kind, four bits up.
pub kind-alone : (word kind : ℕ) → kind < 16 → word / 2 ^ 24 ≡ 16 * kind → ((fields_of word).kind ≡ kind) × ((fields_of word).zero ≡ 0)
kind-alone word kind h e = (omega arith, omega arith)
