use mathlib.Core.Path.{◌≡◌, sym, subst}
use mathlib.Core.List.{List}
use Prim.Native.Nat.{ℕ}
use Rattle.grammar.specs.Questions.{Lawful}
use Rattle.rounds.specs.Number.{sets_of}
use Rattle.rounds.specs.Rounds.{Outcomes}
use Rattle.rounds.proofs.Number.{least_sets}
use Rattle.rounds.proofs.Stars.{nodes_are_formed}
use Rattle.checker.proofs.check.Goals as goal

-- The sets that `star_sets` answers are the least.
least : {img known : List ℕ} → Lawful img → known ≡ sets_of img → Outcomes img known
least {img} l k = subst (Outcomes img) (sym k) (least_sets img l.counts l.words)

pub formed_nodes-formed-requires : goal.formed_nodes-formed-requires
formed_nodes-formed-requires c =
    let rounds = c.over-rounds.result in
    least rounds.all.now.lawful (rw c.in_ok-known.was at c.star_sets.ensures.sets)

pub all_formed-requires : goal.all_formed-requires
all_formed-requires c =
    let rounds = c.over-rounds.result in
    let sets = least rounds.all.now.lawful (rw c.in_ok-known.was at c.star_sets.ensures.sets) in
    nodes_are_formed _ _ rounds.downward rounds.all.now.lawful sets c.formed_nodes-formed.ensures
