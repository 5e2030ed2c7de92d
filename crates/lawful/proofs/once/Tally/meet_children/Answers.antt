use Rattle.grammar.specs.Image.{nodes}
use mathlib.Core.Path.{◌≡◌, refl, ◌∙◌}
use Rattle.lawful.proofs.Tallies.{tallied_none, tallied_more, children_step}
use Rattle.grammar.specs.Questions.{children_below}
use native.Mathlib.Omega.{arith}
use Rattle.lawful.proofs.once.Tally.meet_children.Goals as goal

pub loop-n-init : goal.loop-n-init
unfolding children_below
loop-n-init c = (omega arith, refl, tallied_none c.args.self.now.counts)

pub loop-n-preserved : goal.loop-n-preserved
loop-n-preserved c =
    let met = rw c.loop-n.invariant.1 at c.meet_children_of.ensures.met in (
      omega arith,
      c.meet_children_of.ensures.kept ∙ c.loop-n.invariant.1,
      rw (children_step c.args.self.now.image.now c.loop-n.n) (tallied_more c.loop-n.invariant.2 met),
    )

pub returns : goal.returns
returns c =
    let e : c.loop-n.n ≡ nodes c.args.self.now.image.now = omega (arith, c.header_of-header.ensures.its_nodes) in
    record { kept = c.loop-n.invariant.1; met = record { all_nodes = rw e at c.loop-n.invariant.2 } }
