-- The outcomes of either set, bit by bit. Assumes nothing.
use Rattle.std.proofs.Common.{ℕ, ◌≡◌, ◌%◌, ◌<◌, List, [], refl, sym, ap, ◌∙◌, arith, get_or, bit_or}
use lib.Dec.{eqb}
use Rattle.grammar.specs.Outcomes.{Outcome, matches_empty, consumes, fails}
use Rattle.rounds.specs.Sets.{bit, pack, union}
use Rattle.visits.proofs.Tables.{listed, in_list}

-- Every pair of sets.
pairs : (ℕ → ℕ → ℕ) → List (List ℕ)
pairs f = listed 8 (λ a. listed 8 (λ b. f a b))

in_pairs : (f : ℕ → ℕ → ℕ) (a b : ℕ) → a < 8 → b < 8 → get_or (get_or (pairs f) a []) b 0 ≡ f a b
unfolding pairs
in_pairs f a b p q = ap (λ (r : List ℕ). get_or r b 0) (in_list 8 (λ i. listed 8 (λ j. f i j)) [] a p) ∙ in_list 8 (λ j. f a j) 0 b q

each_pair : pairs bit_or ≡ pairs union
unfolding pairs bit pack union
each_pair = refl

of_bits : (o : Outcome) (a : ℕ) → bit o (a % 8) ≡ bit o a
unfolding bit
of_bits matches_empty a = ap (λ (k : ℕ). eqb k 1) (omega arith)
of_bits consumes a = ap (λ (k : ℕ). eqb k 1) (omega arith)
of_bits fails a = ap (λ (k : ℕ). eqb k 1) (omega arith)

of_low_bits : (a b : ℕ) → union (a % 8) (b % 8) ≡ union a b
unfolding union
of_low_bits a b =
    rw (of_bits matches_empty a, of_bits matches_empty b, of_bits consumes a, of_bits consumes b, of_bits fails a, of_bits fails b) refl

pub joined : (a b : ℕ) → bit_or (a % 8) (b % 8) ≡ union a b
joined a b =
    sym (in_pairs bit_or (a % 8) (b % 8) (omega arith) (omega arith))
    ∙ ap (λ (t : List (List ℕ)). get_or (get_or t (a % 8) []) (b % 8) 0) each_pair
    ∙ in_pairs union (a % 8) (b % 8) (omega arith) (omega arith)
    ∙ of_low_bits a b
