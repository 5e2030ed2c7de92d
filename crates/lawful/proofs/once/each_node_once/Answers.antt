use Rattle.std.proofs.Common.{◌≡◌, ℕ, arith, rules}
use lib.ListN.{length-replicate}
use Rattle.grammar.specs.Image.{nodes}
use Rattle.lawful.proofs.All.{told_front}
use Rattle.lawful.proofs.Tallies.{once_of_count, count_of_once}
use Rattle.lawful.proofs.once.each_node_once.Goals as goal

pub returns : goal.returns
returns c =
    let img = c.args.image.now in
    let few = c.requires.0.few_nodes in
    let is = c.header_of-header.ensures.its_nodes in
    let roots = c.meet_roots.ensures.met.all_rules in
    let all = rw c.meet_roots.ensures.kept at c.meet_children.ensures.met.all_nodes in
    let t = told_front _ _ _ (nodes img) _ 0 (λ k. k ≡ 1) (omega (arith, few, all.as_long, roots.as_long, length-replicate {A = ℕ} 1024 0)) (rw is at c.iter.ensures.rest) c.all.ensures.ran (λ x b q k. search rules) in (
      (λ yes. record { once = λ n l. once_of_count img _ _ 1024 n roots all (t.0 yes n l) }),
      (λ q. t.1 (λ n l. count_of_once img _ _ 1024 n roots all (q.once n l))),
    )
