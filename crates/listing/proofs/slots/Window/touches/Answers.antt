use Rattle.rows.specs.Window.{touches}
use Prim.Native.Nat.{◌+◌}
use lib.Dec.{leb}
use borrow.Author.Tests.{le-leb, lt-leb}
use mathlib.Core.Bool.{Bool, ◌&&◌}
use mathlib.Core.Path.{sym, ap, ◌∙◌}
use Rattle.listing.proofs.slots.Window.touches.Goals as goal

pub returns-then-at-self : goal.returns-then-at-self
unfolding touches
returns-then-at-self c =
    sym (ap (λ (b : Bool). b && leb c.args.self.lo (c.args.at + c.args.length)) (le-leb c.args.at c.args.self.hi c.if-at-self.true))

pub returns-else-at-self : goal.returns-else-at-self
unfolding touches
returns-else-at-self c =
    let no = lt-leb c.args.at c.args.self.hi c.if-at-self.false in
    no ∙ sym (ap (λ (b : Bool). b && leb c.args.self.lo (c.args.at + c.args.length)) no)
