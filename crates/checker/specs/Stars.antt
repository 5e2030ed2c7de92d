-- Questions 1 to 6 apart from 7.
use Rattle.std.specs.Prelude.{ℕ, ◌≡◌, List, Result, IfOk}
use Rattle.grammar.specs.declared.refusal.Refusal.{Refusal}
use Rattle.grammar.specs.Questions.{First}
use Rattle.grammar.specs.Refusals.{number_in}
use Rattle.rounds.specs.Number.{of_stars, sets_of}

-- Refused by the first that fails; else the answer is the outcome sets.
pub record StarsAsked (img : List ℕ) (r : Result (List ℕ) Refusal) : Type 0 where
  pub first : First (of_stars img) (number_in r)
  pub sets : IfOk r (λ known. known ≡ sets_of img)
