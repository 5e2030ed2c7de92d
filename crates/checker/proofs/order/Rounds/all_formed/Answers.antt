use Rattle.std.proofs.Common.{false, arith, rules, IsTrue}
use Rattle.grammar.specs.Image.{nodes}
use Rattle.lawful.proofs.All.{told_front}
use Rattle.checker.proofs.order.Rounds.all_formed.Goals as goal

pub returns : goal.returns
returns c =
    let all = c.args.self.now.all.now in
    let few = all.lawful.counts.few_nodes in
    let t =
    told_front _ _ _ (nodes all.image.now) _ false IsTrue (omega (arith, few, c.told-formed))
    (rw all.counted at c.iter.ensures.rest) c.all.ensures.ran (λ x b q k. search rules) in
    ((λ yes. record { every_node = λ n l. c.requires.only n (t.0 yes n l) }), (λ q. t.1 (λ n l. c.requires.all n l (q.every_node n l))))
