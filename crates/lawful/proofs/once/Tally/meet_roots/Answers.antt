use Rattle.grammar.specs.Image.{rules}
use Rattle.lawful.proofs.InRange.{root_below}
use Rattle.lawful.proofs.Tallies.{tallied_none, tallied_more, roots_step}
use Rattle.grammar.specs.Questions.{roots}
use mathlib.Core.Path.{◌≡◌, refl, ◌∙◌}
use native.Mathlib.Omega.{arith}
use Rattle.lawful.proofs.once.Tally.meet_roots.Goals as goal

pub loop-r-init : goal.loop-r-init
unfolding roots
loop-r-init c = (omega arith, refl, tallied_none c.args.self.now.counts)

pub meet-requires : goal.meet-requires
meet-requires c =
    let t = c.args.self.now in
    let root = rw c.loop-r.invariant.1 at c.rule_at-word.ensures.its_root in
    omega (arith, root, root_below t.image.now t.counted t.worded c.loop-r.r (omega arith))

pub loop-r-preserved : goal.loop-r-preserved
loop-r-preserved c =
    let root = rw c.loop-r.invariant.1 at c.rule_at-word.ensures.its_root in (
      omega arith,
      c.meet.ensures.kept ∙ c.loop-r.invariant.1,
      rw (roots_step c.args.self.now.image.now c.loop-r.r) (rw root at (tallied_more c.loop-r.invariant.2 c.meet.ensures.met)),
    )

pub returns : goal.returns
returns c =
    let e : c.loop-r.r ≡ rules c.args.self.now.image.now = omega (arith, c.header_of-header.ensures.its_rules) in
    record { kept = c.loop-r.invariant.1; met = record { all_rules = rw e at c.loop-r.invariant.2 } }
