use Rattle.std.proofs.Common.{ℕ, List, ◌≡◌, ◌+◌, ◌-◌, arith, length, ap, ◌∙◌, get_or}
use Rattle.std.proofs.lemmas.List.{get_or_append_left, get_or-append_right, get_or-drop, length-take-le}
use Rattle.grammar.proofs.Writes.{next_written, all_the_same}
use Rattle.image.specs.Linked.{linked_from, linked_word}
use Rattle.image.proofs.link_words.Goals as goal

pub loop-n-init : goal.loop-n-init
loop-n-init c = λ k l. absurd (omega arith)

pub loop-n-preserved : goal.loop-n-preserved
loop-n-preserved c =
    next_written (linked_word c.args.image.now) c.loop-n.word-items c.loop-n.n _
    (omega (arith, c.loop-n-test.true, c.loop-n.auto.word-items))
    (c.linked_word.ensures ∙ ap (linked_from c.args.image.now) c.node_word.ensures) c.loop-n.invariant

pub returns : goal.returns
returns c =
    let count = c.header_of-header.result.nodes in
    let items = c.loop-n.word-items in
    let old = c.args.words.now in
    let is = c.header_of-header.ensures.its_nodes in
    let long : length items ≡ count = c.loop-n.auto.word-items ∙ length-take-le count old (omega (arith, is, c.requires.0)) in
    record {
      word_of =
          λ n l. get_or_append_left items _ 0 n (omega (arith, l, long, is))
          ∙ c.loop-n.invariant n (omega (arith, l, long, is, c.loop-n-test.false, c.loop-n.auto.word-items));
      past = λ n h.
          get_or-append_right items _ count n 0 long (omega (arith, h, is)) ∙ get_or-drop count old (n - count) 0
          ∙ ap (λ (zeros : List ℕ). get_or zeros (count + (n - count)) 0) c.requires.1 ∙ all_the_same (length old) (count + (n - count)) 0;
    }
