-- A refusal's number: 1 to 15, and another for each; what a refused call returns. Assumes nothing.
use Rattle.std.proofs.Common.{ℕ, zero, suc, ◌≡◌, ◌≤◌, refl, sym, ap, ◌∙◌, arith}
use Rattle.grammar.specs.Refusals.{number, number_in}
use Rattle.std.specs.Prelude.{Result, Ok, Err, IsErr, IsErrAnd}
use Rattle.grammar.specs.declared.refusal.Refusal.{Refusal}
use Rattle.grammar.specs.declared.refusal.Refusal.TheVariants.{Edition, Counts, Size, Words, Occurrences, StarBodies, WellFormed}
use Rattle.grammar.specs.declared.refusal.Refusal.TheVariants.{Loan, EditRange, EditRoom, Pair, Records, StarRounds, Nesting, Rows}

-- The refusal of a number.
abbrev named : ℕ → Refusal
named zero = Edition
named (suc zero) = Edition
named (suc (suc zero)) = Counts
named (suc (suc (suc zero))) = Size
named (suc (suc (suc (suc zero)))) = Words
named (suc (suc (suc (suc (suc zero))))) = Occurrences
named (suc (suc (suc (suc (suc (suc zero)))))) = StarBodies
named (suc (suc (suc (suc (suc (suc (suc zero))))))) = WellFormed
named (suc (suc (suc (suc (suc (suc (suc (suc zero)))))))) = Loan
named (suc (suc (suc (suc (suc (suc (suc (suc (suc zero))))))))) = EditRange
named (suc (suc (suc (suc (suc (suc (suc (suc (suc (suc zero)))))))))) = EditRoom
named (suc (suc (suc (suc (suc (suc (suc (suc (suc (suc (suc zero))))))))))) = Pair
named (suc (suc (suc (suc (suc (suc (suc (suc (suc (suc (suc (suc zero)))))))))))) = Records
named (suc (suc (suc (suc (suc (suc (suc (suc (suc (suc (suc (suc (suc zero))))))))))))) = StarRounds
named (suc (suc (suc (suc (suc (suc (suc (suc (suc (suc (suc (suc (suc (suc zero)))))))))))))) = Nesting
named (suc (suc (suc (suc (suc (suc (suc (suc (suc (suc (suc (suc (suc (suc (suc k))))))))))))))) = Rows

named_number : (r : Refusal) → named (number r) ≡ r
named_number Edition = refl
named_number Counts = refl
named_number Size = refl
named_number Words = refl
named_number Occurrences = refl
named_number StarBodies = refl
named_number WellFormed = refl
named_number Loan = refl
named_number EditRange = refl
named_number EditRoom = refl
named_number Pair = refl
named_number Records = refl
named_number StarRounds = refl
named_number Nesting = refl
named_number Rows = refl

pub same_refusal : {r q : Refusal} → number r ≡ number q → r ≡ q
same_refusal {r} {q} e = sym (named_number r) ∙ ap named e ∙ named_number q

pub number_bounds : (r : Refusal) → (1 ≤ number r) × (number r ≤ 15)
number_bounds Edition = (omega arith, omega arith)
number_bounds Counts = (omega arith, omega arith)
number_bounds Size = (omega arith, omega arith)
number_bounds Words = (omega arith, omega arith)
number_bounds Occurrences = (omega arith, omega arith)
number_bounds StarBodies = (omega arith, omega arith)
number_bounds WellFormed = (omega arith, omega arith)
number_bounds Loan = (omega arith, omega arith)
number_bounds EditRange = (omega arith, omega arith)
number_bounds EditRoom = (omega arith, omega arith)
number_bounds Pair = (omega arith, omega arith)
number_bounds Records = (omega arith, omega arith)
number_bounds StarRounds = (omega arith, omega arith)
number_bounds Nesting = (omega arith, omega arith)
number_bounds Rows = (omega arith, omega arith)

-- An answer with a refusal's number is that refusal.
pub refused_with : {A : Type 0} (a : Result A Refusal) (r : Refusal) → number_in a ≡ number r → a ≡ Err r
refused_with (Ok x) r e = absurd (let b = number_bounds r in omega arith)
refused_with (Err q) r e = ap Err (same_refusal e)

-- What `?` returns.
pub left_with : {A : Type 0} {r : Result A Refusal} {k : Refusal} → IsErr r × IsErrAnd r (λ y. y ≡ k) → r ≡ Err k
left_with {r = Ok x} h = absurd h.1
left_with {r = Err y} h = ap Err h.1
