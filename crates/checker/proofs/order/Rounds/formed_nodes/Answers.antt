use Rattle.rounds.specs.Visits.{join_at}
use Rattle.grammar.specs.Image.{nodes}
use mathlib.Core.Path.{◌≡◌, refl, sym, ap, ◌∙◌}
use Rattle.rounds.proofs.FormedRounds.{marks_start, marked, marked_heavier, marked_visit, unqualified_visit, marked_before}
use Rattle.rounds.proofs.FormedRounds.{marks_bound, round_marks, formed_nodes_left}
use Rattle.rounds.proofs.Turns.{reached_none, reached_more, turn_none, turn_write, turn_keep, turn_made, nothing_more}
use Rattle.rounds.proofs.Stars.{order_visits}
use native.Mathlib.Omega.{arith}
use lib.ListN.{length, get_or}
use Prim.Native.Nat.{◌<◌}
use Rattle.checker.proofs.order.Rounds.formed_nodes.Goals as goal
use Rattle.checker.proofs.order.Rounds.formed_nodes.Goals.{then-not-formed-n+then-joins, else-not-formed-n}
use Rattle.checker.proofs.order.Rounds.formed_nodes.Goals.{else-not-formed-n-via-then-not-formed-n+else-joins, else-not-formed-n-via-else-not-formed-n}

pub rounds-init : goal.rounds-init
rounds-init c = (marks_start c.args.self.now.all.now.image.now 1024 refl, reached_none _)

pub loop-node-init : goal.loop-node-init
loop-node-init c = turn_none c.rounds.invariant.0

pub bounds-formed-n : goal.bounds-formed-n
bounds-formed-n c =
    let named = (order_visits _ _ c.args.self.now.downward).only_nodes c.loop-node.node-index (omega arith) in
    omega (arith, c.from-n.ensures, named, c.args.self.now.all.now.lawful.counts.few_nodes)

pub joins-requires : goal.joins-requires
joins-requires c =
    let named = (order_visits _ _ c.args.self.now.downward).only_nodes c.loop-node.node-index (omega arith) in
    omega (arith, c.from-n.ensures, named)

pub bounds-formed-n-then-joins : goal.bounds-formed-n-then-joins
bounds-formed-n-then-joins c =
    let named = (order_visits _ _ c.args.self.now.downward).only_nodes c.loop-node.node-index (omega arith) in
    omega (arith, c.from-n.ensures, named, c.args.self.now.all.now.lawful.counts.few_nodes)

pub loop-node-preserved : goal.loop-node-preserved
loop-node-preserved c =
    let img = c.args.self.now.all.now.image.now in
    let known = c.args.known.now in
    let formed = c.loop-node.formed in
    let i = c.loop-node.node-index in
    let n = c.from-n.result in
    let t = c.loop-node.invariant in
    let words = c.args.self.now.all.now.lawful.words in
    let few = c.args.self.now.all.now.lawful.counts.few_nodes in
    let in_order : i < length c.args.self.now.order.now = omega arith in
    let at : n ≡ get_or c.args.self.now.order.now i 0 = c.from-n.ensures in
    let in-nodes : n < nodes img = omega (arith, (order_visits _ _ c.args.self.now.downward).only_nodes i in_order) in
    let in_list : n < length formed = omega (arith, t.good.as_long) in
    elim c.if-not-formed-n.branch [
      | then-not-formed-n+then-joins w ↦
          rw (w.formed-is, w.added-is)
          (turn_write t in_order
          (marked_visit img known formed n (cc) ∙ ap (join_at img known formed) at)
          (marked img known formed words c.requires t.good n in-nodes in_list (cc))
          (marked_heavier img known formed words c.requires t.good n in-nodes in_list w.if-not-formed-n.true))
      | else-not-formed-n w ↦
          elim w.else-not-formed-n.branch [
            | else-not-formed-n-via-then-not-formed-n+else-joins v ↦
                rw (w.formed-is, w.added-is)
                (turn_keep t in_order (ap (join_at img known formed) (sym at) ∙ unqualified_visit img known formed n (cc)))
            | else-not-formed-n-via-else-not-formed-n v ↦
                rw (w.formed-is, w.added-is)
                (turn_keep t in_order (ap (join_at img known formed) (sym at) ∙ marked_before img known formed n v.if-not-formed-n.false))
          ]
    ]

pub rounds-smaller : goal.rounds-smaller
rounds-smaller c =
    let t = c.loop-node.invariant in
    let img = c.args.self.now.all.now.image.now in
    let lawful = c.args.self.now.all.now.lawful in
    let visits = order_visits _ _ c.args.self.now.downward in
    let made = turn_made t (omega arith) in
    let sound = c.rounds.invariant.0 in
    let more = round_marks img c.args.known.now _ lawful.counts lawful.words c.requires visits sound made c.if-not-added.false in
    omega (arith, marks_bound img c.loop-node.formed t.good)

pub rounds-preserved : goal.rounds-preserved
rounds-preserved c =
    let t = c.loop-node.invariant in
    let made = turn_made t (omega arith) in
    (t.good, reached_more _ c.rounds.invariant.1 made.is_round)

pub returns : goal.returns
returns c =
    let t = c.loop-node.invariant in
    let img = c.args.self.now.all.now.image.now in
    let lawful = c.args.self.now.all.now.lawful in
    let visits = order_visits _ _ c.args.self.now.downward in
    let made = turn_made t (omega arith) in
    formed_nodes_left img c.args.known.now _ lawful.counts lawful.words c.requires visits c.loop-node.formed
    (reached_more _ c.rounds.invariant.1 made.is_round)
    (nothing_more _ _ made c.if-not-added.true)
