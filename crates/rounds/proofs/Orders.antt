-- Orders that visit every node: from the highest down, as a list, and as the first places of an array. Assumes nothing.
use Prim.Native.Nat.{ℕ, zero, suc, ◌-◌, ◌≤◌, ◌<◌}
use native.Mathlib.Omega.{arith}
use mathlib.Core.Path.{◌≡◌, refl, sym, ap, ◌∙◌}
use mathlib.Core.List.{List}
use lib.ListN.{length, get_or, take}
use lib.Seq.{length-take-le, get_or-take, ext_get_or}
use Rattle.rounds.specs.Order.{VisitsAll, descending}

length-descending : (count : ℕ) → length (descending count) ≡ count
unfolding descending
length-descending zero = refl
length-descending (suc count) = ap suc (length-descending count)

at-descending : (count i : ℕ) → i < count → get_or (descending count) i 0 ≡ count - 1 - i
unfolding descending
at-descending zero i l = absurd (omega arith)
at-descending (suc count) zero l = omega arith
at-descending (suc count) (suc i) l = at-descending count i (omega arith) ∙ omega arith

pub descending_visits : (count : ℕ) → VisitsAll count (descending count)
descending_visits count =
    record {
      as_long = length-descending count;
      only_nodes = λ i l. let m : i < count = omega (arith, length-descending count) in omega (arith, at-descending count i m);
      place = λ n l. count - 1 - n;
      in_round = λ n l. omega (arith, length-descending count);
      visits = λ n l. at-descending count (count - 1 - n) (omega arith) ∙ omega arith;
    }

-- An array whose first places have the nodes from the highest down.
pub descending_array :
    (count : ℕ) (array : List ℕ)
    → count ≤ length array
    → ((i : ℕ) → i < count → get_or array i 0 ≡ count - 1 - i)
    → take count array ≡ descending count
descending_array count array long at =
    ext_get_or 0 (take count array) (descending count) (as_long ∙ sym (length-descending count))
    (λ i l. let m : i < count = omega (arith, as_long) in get_or-take count array i 0 m ∙ at i m ∙ sym (at-descending count i m))
  where
    as_long : length (take count array) ≡ count
    as_long = length-take-le count array long
