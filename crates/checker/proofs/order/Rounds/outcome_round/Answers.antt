use Rattle.rounds.specs.Visits.{gathered, gather_at}
use Rattle.rounds.specs.Sets.{union}
use Rattle.grammar.specs.Image.{node, nodes}
use mathlib.Core.Path.{◌≡◌, sym, ap, ◌∙◌}
use Rattle.rounds.proofs.OutcomeRounds.{stored, stored_heavier, stored_visit, kept_visit, full_visit}
use Rattle.rounds.proofs.Turns.{turn_none, turn_write, turn_keep, turn_made}
use Rattle.rounds.proofs.Stars.{order_visits}
use native.Mathlib.Omega.{arith}
use lib.ListN.{length, get_or}
use Prim.Native.Nat.{◌<◌}
use Rattle.checker.proofs.order.Rounds.outcome_round.Goals as goal
use Rattle.checker.proofs.order.Rounds.outcome_round.Goals.{then-old-ne7+then-new-old, then-old-ne7+else-new-old, else-old-ne7}

pub loop-node-init : goal.loop-node-init
loop-node-init c = turn_none c.requires

pub bounds-known-n : goal.bounds-known-n
bounds-known-n c =
    let named = (order_visits _ _ c.args.self.now.downward).only_nodes in
    omega (arith, c.from-n.ensures, named, c.args.self.now.all.now.lawful.counts.few_nodes)

pub outcomes-requires : goal.outcomes-requires
outcomes-requires c =
    let named = (order_visits _ _ c.args.self.now.downward).only_nodes in
    (omega (arith, c.from-n.ensures, named), c.loop-node.invariant.good.small)

pub bounds-known-n-then-new-old : goal.bounds-known-n-then-new-old
bounds-known-n-then-new-old c =
    let named = (order_visits _ _ c.args.self.now.downward).only_nodes in
    omega (arith, c.from-n.ensures, named, c.args.self.now.all.now.lawful.counts.few_nodes)

pub loop-node-preserved : goal.loop-node-preserved
loop-node-preserved c =
    let img = c.args.self.now.all.now.image.now in
    let known = c.loop-node.known in
    let i = c.loop-node.node-index in
    let n = c.from-n.result in
    let t = c.loop-node.invariant in
    let few = c.args.self.now.all.now.lawful.counts.few_nodes in
    let in_order : i < length c.args.self.now.order.now = omega arith in
    let at : n ≡ get_or c.args.self.now.order.now i 0 = c.from-n.ensures in
    let in-nodes : n < nodes img = omega (arith, (order_visits _ _ c.args.self.now.downward).only_nodes i in_order) in
    let small : n < 1024 = omega arith in
    elim c.if-old-ne7.branch [
      | then-old-ne7+then-new-old w ↦
          let v = w.join-new.result in
          let gained : v ≡ union (get_or known n 0) (gathered img known (node img n)) = cc in
          rw (w.known-is, w.added-is)
          (turn_write t in_order
          (stored_visit img known t.good n v in-nodes small gained ∙ ap (gather_at img known) at)
          (stored img known t.good n v in-nodes small gained)
          (stored_heavier img known t.good n v in-nodes small gained w.if-new-old.true))
      | then-old-ne7+else-new-old w ↦
          let v = w.join-new.result in
          let gained : v ≡ union (get_or known n 0) (gathered img known (node img n)) = cc in
          rw (w.known-is, w.added-is)
          (turn_keep t in_order (ap (gather_at img known) (sym at) ∙ kept_visit img known t.good n v in-nodes small gained w.if-new-old.false))
      | else-old-ne7 w ↦
          rw (w.known-is, w.added-is) (turn_keep t in_order (ap (gather_at img known) (sym at) ∙ full_visit img known n w.if-old-ne7.false))
    ]

pub returns : goal.returns
returns c = turn_made c.loop-node.invariant (omega arith)
