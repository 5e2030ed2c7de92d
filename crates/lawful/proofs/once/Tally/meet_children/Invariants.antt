use Rattle.grammar.specs.Questions.{children_below}
use Rattle.lawful.specs.Tally.{Tallied}
use Prim.Native.Nat.{◌≤◌, ◌-◌}
use mathlib.Core.Path.{◌≡◌}
use Rattle.lawful.proofs.once.Tally.meet_children.Given as goal

abbrev pub invariant-loop-n : goal.invariant-loop-n
invariant-loop-n l =
    (l.n ≤ l.n-end) × (l.self.image ≡ l.initial.self.image)
    × Tallied l.initial.self.counts l.self.counts (children_below l.initial.self.image.now l.n)

abbrev pub decreases-loop-n : goal.decreases-loop-n
decreases-loop-n l = l.n-end - l.n
