use Rattle.lawful.proofs.InRange.{two_below, one_below, two_children, one_child, no_child}
use Rattle.lawful.proofs.Tallies.{tallied_none, tallied_more}
use Rattle.lawful.proofs.once.Tally.meet_children_of.Goals as goal

pub meet-requires : goal.meet-requires
meet-requires c =
    let t = c.args.self.now in
    one_below t.image.now t.counted t.worded c.args.n c.requires (rw c.node.ensures at c.in-Star.is)

pub meet-requires-in-Sequence : goal.meet-requires-in-Sequence
meet-requires-in-Sequence c =
    let t = c.args.self.now in
    (two_below t.image.now t.counted t.worded c.args.n c.requires (rw c.node.ensures at c.in-Sequence.is)).1

pub meet-requires-in-Sequence-2 : goal.meet-requires-in-Sequence-2
meet-requires-in-Sequence-2 c =
    let t = c.args.self.now in
    (two_below t.image.now t.counted t.worded c.args.n c.requires (rw c.node.ensures at c.in-Sequence.is)).0

pub returns-in_default-clause-met : goal.returns-in_default-clause-met
returns-in_default-clause-met c =
    let d = c.in_default in
    rw (no_child _ (rw c.node.ensures at d.not-Sequence) (rw c.node.ensures at d.not-Choice) (rw c.node.ensures at d.not-Star) (rw c.node.ensures at d.not-NotPredicate)) (tallied_none c.args.self.now.counts)

pub returns-in-Sequence-clause-met : goal.returns-in-Sequence-clause-met
returns-in-Sequence-clause-met c =
    rw (two_children (rw c.node.ensures at c.in-Sequence.is)) (tallied_more c.meet-in-Sequence.ensures.met c.meet-in-Sequence-2.ensures.met)

pub returns-in-Star-clause-met : goal.returns-in-Star-clause-met
returns-in-Star-clause-met c = rw (one_child (rw c.node.ensures at c.in-Star.is)) c.meet.ensures.met
