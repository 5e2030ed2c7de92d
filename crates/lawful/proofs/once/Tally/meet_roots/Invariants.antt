use Rattle.grammar.specs.Questions.{roots}
use Rattle.lawful.specs.Tally.{Tallied}
use Prim.Native.Nat.{◌≤◌, ◌-◌}
use mathlib.Core.Path.{◌≡◌}
use Rattle.lawful.proofs.once.Tally.meet_roots.Given as goal

abbrev pub invariant-loop-r : goal.invariant-loop-r
invariant-loop-r l =
    (l.r ≤ l.r-end) × (l.self.image ≡ l.initial.self.image)
    × Tallied l.initial.self.counts l.self.counts (roots l.initial.self.image.now l.r)

abbrev pub decreases-loop-r : goal.decreases-loop-r
decreases-loop-r l = l.r-end - l.r
