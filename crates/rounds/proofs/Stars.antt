-- Questions 1 to 6 apart from 7, where all hold; and the rounds in the order from the highest node down. Assumes nothing.
use Prim.Native.Nat.{ℕ}
use mathlib.Core.Path.{◌≡◌, refl, ap, sym, subst}
use mathlib.Core.Bool.{Bool}
use mathlib.Core.List.{List}
use mathlib.Core.Logic.{inr}
use Rattle.grammar.specs.Image.{nodes}
use Rattle.grammar.specs.Questions.{First, Lawful, Question6}
use Rattle.rounds.specs.Order.{VisitsAll, descending}
use Rattle.rounds.specs.Rounds.{outcome_sets, formed_nodes, Outcomes, Formed}
use Rattle.rounds.specs.Number.{of_stars, sets_of}
use Rattle.rounds.proofs.Orders.{descending_visits}
use Rattle.rounds.proofs.OutcomeRounds.{outcome_sets_least}
use Rattle.rounds.proofs.FormedRounds.{formed_nodes_least}

-- A lawful image that passes question 6.
pub stars_passed : {img : List ℕ} → Lawful img → Question6 img → First (of_stars img) 0
stars_passed l q = inr (l.header, inr (l.counts, inr (l.size, inr (l.words, inr (l.tree, inr (q, refl))))))

-- The rounds of a lawful image in the order that is from the highest node down.
module _ (img order : List ℕ) (e : order ≡ descending (nodes img)) where
  pub order_visits : VisitsAll (nodes img) order
  order_visits = subst (VisitsAll (nodes img)) (sym e) (descending_visits (nodes img))

  pub sets_in_order : outcome_sets img order ≡ sets_of img
  unfolding sets_of
  sets_in_order = ap (outcome_sets img) e

  pub sets_are_least : {known : List ℕ} → Lawful img → known ≡ outcome_sets img order → Outcomes img known
  sets_are_least l k = subst (Outcomes img) (sym k) (outcome_sets_least img order l.counts l.words order_visits)

  pub nodes_are_formed :
      {known : List ℕ} {formed : List Bool} → Lawful img → Outcomes img known → formed ≡ formed_nodes img known order → Formed img formed
  nodes_are_formed {known} l sets f =
      subst (Formed img) (sym f) (formed_nodes_least img known order l.counts l.words sets order_visits)
