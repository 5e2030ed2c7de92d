-- A count of pairs over more positions than any that passes is at counts the same. Assumes nothing.
use Prim.Native.Nat.{ℕ, zero, suc, ◌+◌, ◌-◌, ◌≤◌}
use native.Mathlib.Omega.{arith}
use native.Mathlib.Nat.{add-zero, add-suc}
use mathlib.Core.Path.{◌≡◌, sym, ap, ◌∙◌}
use mathlib.Core.Bool.{Bool, false}
use Rattle.grammar.specs.Questions.{one_if}
use Rattle.evaluation.specs.Counts.{sum_to, count_pairs}
use Rattle.evaluation.proofs.Counts.{sum_none}

sum_add : (a b : ℕ) (f : ℕ → ℕ) → sum_to (a + b) f ≡ sum_to a f + sum_to b (λ j. f (a + j))
unfolding sum_to
sum_add a zero f = ap (λ (k : ℕ). sum_to k f) (add-zero a) ∙ sym (add-zero (sum_to a f))
sum_add a (suc b) f = let h = sum_add a b f in let e = ap (λ (k : ℕ). sum_to k f) (add-suc a b) in omega arith

-- No pair at a position from m on passes.
pub count_cut :
    (rules m positions : ℕ) (test : ℕ → ℕ → Bool)
    → m ≤ positions
    → ((r q : ℕ) → m ≤ q → test r q ≡ false)
    → count_pairs rules positions test ≡ count_pairs rules m test
count_cut R m n test h none =
    let f : ℕ → ℕ = λ q. sum_to R (λ r. one_if (test r q)) in
    let e = ap (λ (k : ℕ). sum_to k f) (let d : n ≡ m + (n - m) = omega arith in d) in
    let a = sum_add m (n - m) f in
    let b =
    sum_none (n - m) (λ j. f (m + j)) (λ i l. sum_none R (λ r. one_if (test r (m + i))) (λ r k. ap one_if (none r (m + i) (omega arith)))) in
    omega arith
