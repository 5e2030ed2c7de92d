use mathlib.Core.Bool.{Bool, true≢false}
use mathlib.Core.Path.{sym, ◌∙◌}
use Rattle.std.proofs.Common.{ℕ, ◌<◌, ◌↔◌, List, IsTrue, rules}
use Rattle.std.proofs.iter.Serving.{serving}
use Rattle.grammar.specs.Image.{nodes}
use Rattle.grammar.specs.Questions.{Question6}
use Rattle.lawful.proofs.All.{told_below}
use Rattle.rounds.specs.Rounds.{StarConsumes}
use Rattle.rounds.proofs.Stars.{sets_are_least, sets_in_order, stars_passed}
use Rattle.checker.proofs.order.Rounds.star_sets.Goals as goal

-- Question 6 is asked node by node.
by_node : {img : List ℕ} {r : Bool} → IsTrue r ↔ ((n : ℕ) → n < nodes img → StarConsumes img n) → IsTrue r ↔ Question6 img
by_node t = ((λ yes. record { stars = λ n a l. (t.0 yes n l).lacks_0 a }), (λ q. t.1 (λ n l. record { lacks_0 = λ a. q.stars n a l })))

pub all-requires-clause-callable : goal.all-requires-clause-callable
all-requires-clause-callable c =
    let rounds = c.args.self.now in
    let sets = sets_are_least _ _ rounds.downward rounds.all.now.lawful c.outcome_sets-known.ensures in
    grind (serving, sets)

pub returns-then-not-all : goal.returns-then-not-all
returns-then-not-all c =
    let rounds = c.args.self.now in
    let t = by_node (told_below _ _ _ _ (StarConsumes rounds.all.now.image.now) (cc) c.all.ensures.ran (λ x b q k. search rules)) in
    let no : Question6 rounds.all.now.image.now → ⊥ = λ q. true≢false (sym (t.1 q) ∙ c.if-not-all.true) in
    search rules

pub returns : goal.returns
returns c =
    let rounds = c.args.self.now in
    let t = by_node (told_below _ _ _ _ (StarConsumes rounds.all.now.image.now) (cc) c.all.ensures.ran (λ x b q k. search rules)) in
    record {
      first = stars_passed rounds.all.now.lawful (t.0 c.if-not-all.false);
      sets = c.outcome_sets-known.ensures ∙ sets_in_order _ _ rounds.downward;
    }
