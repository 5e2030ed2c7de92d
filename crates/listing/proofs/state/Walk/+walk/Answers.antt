-- The goals of the walk's cycle, step by step. Each answer is a way of proofs/Paths or proofs/Rules. Assumes nothing.
use Rattle.std.specs.Prelude.{Ok}
use Rattle.grammar.proofs.Refusals.{left_with}
use Rattle.listing.proofs.Gives.{steady, kept_on, smaller}
use Rattle.listing.proofs.Paths.{node_found, sequence_stops, sequence_fails, sequence_in_text, sequence_second_stops, sequence_second_fails, sequence_both, not_stops, not_fails, not_matches, part_stops, part_fails, part_missed, part_goes, choice_stops, choice_first, choice_second, star_start, star_stops, star_last, star_in_text, star_still, star_more}
use Rattle.listing.proofs.Rules.{rule_empty, rule_impossible, rule_failed, held_in_text, rule_missed, rule_full, rule_stops, rule_goes, node_too_deep, node_goes, empty_goes, text_goes, unlawful_goes, parts_small}
use Rattle.rows.specs.Walk.{kind_v}
use lib.ListN.{length}
use mathlib.Core.Path.{refl, sym, ap, ◌∙◌}
use native.Mathlib.Omega.{arith}
use Rattle.listing.proofs.state.Walk.+walk.Goals as goal

pub walk_choice-returns-in_err-x-clause-gives : goal.walk_choice-returns-in_err-x-clause-gives
walk_choice-returns-in_err-x-clause-gives t c =
    choice_stops c.walk_part.ensures.kept c.requires.0 _ _ _ _ c.walk_part.ensures.gives _ _ c.in_err-x.was (left_with c.from_residual.ensures)

pub walk_choice-returns-in-Some-clause-gives : goal.walk_choice-returns-in-Some-clause-gives
walk_choice-returns-in-Some-clause-gives t c =
    choice_first c.walk_part.ensures.kept c.requires.0 _ _ _ _ c.walk_part.ensures.gives _ _ (c.in_ok-x.was ∙ ap Ok c.in-Some.is)

pub walk_choice-returns-clause-gives : goal.walk_choice-returns-clause-gives
walk_choice-returns-clause-gives t c =
    choice_second c.walk_part.ensures.kept c.requires.0 _ _ _ _ c.walk_part.ensures.gives _ _ (c.in_ok-x.was ∙ ap Ok c.in_default.is) c.walk_node.ensures.gives

pub walk_node-returns-then-left-eq0-clause-gives : goal.walk_node-returns-then-left-eq0-clause-gives
walk_node-returns-then-left-eq0-clause-gives t c =
    node_too_deep c.args.self.now c.requires.0 _ _ _ c.if-left-eq0.true

pub walk_node-walk_sequence-requires : goal.walk_node-walk_sequence-requires
walk_node-walk_sequence-requires t c =
    let ne = c.if-left-eq0.false in
    let parts = parts_small _ c.node_of-fields.ensures c.in-Sequence.ensures in
    (omega (arith, ne), (smaller c.requires.0 (omega (arith, ne)), parts.0, parts.1))

pub walk_node-walk_choice-requires : goal.walk_node-walk_choice-requires
walk_node-walk_choice-requires t c =
    let ne = c.if-left-eq0.false in
    let parts = parts_small _ c.node_of-fields.ensures c.in-Choice.ensures in
    (omega (arith, ne), (smaller c.requires.0 (omega (arith, ne)), parts.0, parts.1))

pub walk_node-walk_star-requires : goal.walk_node-walk_star-requires
walk_node-walk_star-requires t c =
    let ne = c.if-left-eq0.false in (omega (arith, ne), (smaller c.requires.0 (omega (arith, ne)), parts_small _ c.node_of-fields.ensures c.in-Star.ensures))

pub walk_node-walk_not-requires : goal.walk_node-walk_not-requires
walk_node-walk_not-requires t c =
    let ne = c.if-left-eq0.false in (omega (arith, ne), (smaller c.requires.0 (omega (arith, ne)), parts_small _ c.node_of-fields.ensures c.in-NotPredicate.ensures))

pub walk_node-walk_rule-requires : goal.walk_node-walk_rule-requires
walk_node-walk_rule-requires t c =
    let ne = c.if-left-eq0.false in (omega (arith, ne), smaller c.requires.0 (omega (arith, ne)))

pub walk_node-invariant_of-body : goal.walk_node-invariant_of-body
walk_node-invariant_of-body t c =
    record {
      rule_fits = parts_small _ c.node_of-fields.ensures c.in-Call.ensures;
      root_fits = omega (arith, c.node_of-fields.ensures.its_b);
    }

pub walk_node-returns-in-Empty-clause-gives : goal.walk_node-returns-in-Empty-clause-gives
walk_node-returns-in-Empty-clause-gives t c =
    empty_goes c.args.self.now c.requires.0 _ _ _ c.if-left-eq0.false c.node_of-fields.ensures c.in-Empty.ensures

pub walk_node-returns-in-Text-clause-gives : goal.walk_node-returns-in-Text-clause-gives
walk_node-returns-in-Text-clause-gives t c =
    text_goes c.args.self.now c.requires.0 _ _ _ c.if-left-eq0.false c.node_of-fields.ensures c.in-Text.ensures c.leaf.ensures

pub walk_node-returns-in-Sequence-clause-gives : goal.walk_node-returns-in-Sequence-clause-gives
unfolding kind_v
walk_node-returns-in-Sequence-clause-gives t c =
    node_goes c.args.self.now c.requires.0 _ _ _ c.if-left-eq0.false c.node_of-fields.ensures c.in-Sequence.ensures c.walk_sequence.ensures.gives

pub walk_node-returns-in-Choice-clause-gives : goal.walk_node-returns-in-Choice-clause-gives
unfolding kind_v
walk_node-returns-in-Choice-clause-gives t c =
    node_goes c.args.self.now c.requires.0 _ _ _ c.if-left-eq0.false c.node_of-fields.ensures c.in-Choice.ensures c.walk_choice.ensures.gives

pub walk_node-returns-in-Star-clause-gives : goal.walk_node-returns-in-Star-clause-gives
unfolding kind_v
walk_node-returns-in-Star-clause-gives t c =
    node_goes c.args.self.now c.requires.0 _ _ _ c.if-left-eq0.false c.node_of-fields.ensures c.in-Star.ensures c.walk_star.ensures.gives

pub walk_node-returns-in-NotPredicate-clause-gives : goal.walk_node-returns-in-NotPredicate-clause-gives
unfolding kind_v
walk_node-returns-in-NotPredicate-clause-gives t c =
    node_goes c.args.self.now c.requires.0 _ _ _ c.if-left-eq0.false c.node_of-fields.ensures c.in-NotPredicate.ensures c.walk_not.ensures.gives

pub walk_node-returns-in-Call-clause-gives : goal.walk_node-returns-in-Call-clause-gives
unfolding kind_v
walk_node-returns-in-Call-clause-gives t c =
    node_goes c.args.self.now c.requires.0 _ _ _ c.if-left-eq0.false c.node_of-fields.ensures c.in-Call.ensures (rw c.node_of-fields.ensures.its_b at c.walk_rule.ensures.gives)

pub walk_node-returns-in-Unlawful-clause-gives : goal.walk_node-returns-in-Unlawful-clause-gives
walk_node-returns-in-Unlawful-clause-gives t c =
    unlawful_goes c.args.self.now c.requires.0 _ _ _ c.if-left-eq0.false c.node_of-fields.ensures c.in-Unlawful.ensures

pub walk_not-returns-in_err-walk_node-clause-gives : goal.walk_not-returns-in_err-walk_node-clause-gives
walk_not-returns-in_err-walk_node-clause-gives t c =
    not_stops c.walk_node.ensures.kept c.requires.0 _ _ (rw c.past.ensures at c.walk_node.ensures.gives) _ _ _ c.in_err-walk_node.was (left_with c.from_residual.ensures)

pub walk_not-returns-in-Some-clause-gives : goal.walk_not-returns-in-Some-clause-gives
walk_not-returns-in-Some-clause-gives t c =
    not_fails c.walk_node.ensures.kept c.requires.0 _ _ (rw c.past.ensures at c.walk_node.ensures.gives) _ _ _ (c.in_ok-walk_node.was ∙ ap Ok c.in-Some.is)

pub walk_not-returns-in-None-clause-gives : goal.walk_not-returns-in-None-clause-gives
walk_not-returns-in-None-clause-gives t c =
    not_matches c.walk_node.ensures.kept c.requires.0 _ _ (rw c.past.ensures at c.walk_node.ensures.gives) _ _ _ (c.in_ok-walk_node.was ∙ ap Ok c.in-None.is)

pub walk_part-returns-in_err-x-clause-gives : goal.walk_part-returns-in_err-x-clause-gives
walk_part-returns-in_err-x-clause-gives t c =
    part_stops c.walk_node.ensures.kept c.requires.0 _ _ (rw c.past.ensures at c.walk_node.ensures.gives) _ _ c.in_err-x.was (left_with c.from_residual.ensures)

pub walk_part-returns-in_default-clause-gives : goal.walk_part-returns-in_default-clause-gives
walk_part-returns-in_default-clause-gives t c =
    part_fails c.walk_node.ensures.kept c.requires.0 _ _ (rw c.past.ensures at c.walk_node.ensures.gives) _ _ (c.in_ok-x.was ∙ ap Ok c.in_default.is)

pub walk_part-touches-requires : goal.walk_part-touches-requires
walk_part-touches-requires t c =
    omega (arith, (node_found c.walk_node.ensures.kept c.requires.0 _ _ _ _ c.walk_node.ensures.gives (c.in_ok-x.was ∙ ap Ok c.in-Some.is)).in_text, c.args.self.now.short)

pub walk_part-returns-then-not-touches-clause-gives : goal.walk_part-returns-then-not-touches-clause-gives
walk_part-returns-then-not-touches-clause-gives t c =
    part_missed c.walk_node.ensures.kept c.requires.0 _ _ (rw c.past.ensures at c.walk_node.ensures.gives) _ _ (c.in_ok-x.was ∙ ap Ok c.in-Some.is) (sym c.touches.ensures ∙ c.if-not-touches.true)

pub walk_part-returns-clause-gives : goal.walk_part-returns-clause-gives
walk_part-returns-clause-gives t c =
    part_goes c.walk_node.ensures.kept c.requires.0 _ _ (rw c.past.ensures at c.walk_node.ensures.gives) _ _ (c.in_ok-x.was ∙ ap Ok c.in-Some.is) (sym c.touches.ensures ∙ c.if-not-touches.false) c.walk_node-2.ensures.gives

pub walk_rule-returns-then-not-is_held-clause-gives : goal.walk_rule-returns-then-not-is_held-clause-gives
walk_rule-returns-then-not-is_held-clause-gives t c =
    rule_empty c.args.self.now c.requires _ _ _ _ _ c.look-word.ensures (sym c.is_held.ensures ∙ c.if-not-is_held.true)

pub walk_rule-returns-in_default-clause-gives : goal.walk_rule-returns-in_default-clause-gives
walk_rule-returns-in_default-clause-gives t c =
    rule_impossible c.args.self.now c.requires _ _ _ _ _ c.look-word.ensures (sym c.in_default.is ∙ c.from_word.ensures)

pub walk_rule-returns-then-not-held-clause-gives : goal.walk_rule-returns-then-not-held-clause-gives
walk_rule-returns-then-not-held-clause-gives t c =
    rule_failed c.args.self.now c.requires _ _ _ _ _ c.look-word.ensures (sym c.is_held.ensures ∙ c.if-not-is_held.false) c.in-Some.ensures c.if-not-held.true

pub walk_rule-touches-requires : goal.walk_rule-touches-requires
walk_rule-touches-requires t c =
    omega (arith, held_in_text _ _ _ c.in-Some.ensures, c.args.self.now.short)

pub walk_rule-returns-then-not-touches-clause-gives : goal.walk_rule-returns-then-not-touches-clause-gives
walk_rule-returns-then-not-touches-clause-gives t c =
    rule_missed c.args.self.now c.requires _ _ _ _ _ c.look-word.ensures (sym c.is_held.ensures ∙ c.if-not-is_held.false) c.in-Some.ensures c.if-not-held.false (sym c.touches.ensures ∙ c.if-not-touches.true)

pub walk_rule-returns-then-self-clause-gives : goal.walk_rule-returns-then-self-clause-gives
walk_rule-returns-then-self-clause-gives t c =
    rule_full c.args.self.now c.requires _ _ _ _ _ c.look-word.ensures (sym c.is_held.ensures ∙ c.if-not-is_held.false) c.in-Some.ensures c.if-not-held.false (sym c.touches.ensures ∙ c.if-not-touches.false) c.if-self.true

pub walk_rule-returns-in_err-walk_node-clause-gives : goal.walk_rule-returns-in_err-walk_node-clause-gives
walk_rule-returns-in_err-walk_node-clause-gives t c =
    rule_stops c.args.self.now c.requires _ _ _ _ _ c.look-word.ensures (sym c.is_held.ensures ∙ c.if-not-is_held.false) c.in-Some.ensures c.if-not-held.false (sym c.touches.ensures ∙ c.if-not-touches.false) c.if-self.false c.from.ensures (rw c.store.ensures at c.walk_node.ensures.gives) c.in_err-walk_node.was (left_with c.from_residual.ensures)

pub walk_rule-returns-clause-gives : goal.walk_rule-returns-clause-gives
walk_rule-returns-clause-gives t c =
    rule_goes c.args.self.now c.requires _ _ _ _ _ c.look-word.ensures (sym c.is_held.ensures ∙ c.if-not-is_held.false) c.in-Some.ensures c.if-not-held.false (sym c.touches.ensures ∙ c.if-not-touches.false) c.if-self.false c.from.ensures (rw c.store.ensures at c.walk_node.ensures.gives) c.in_ok-walk_node.was

pub walk_sequence-returns-in_err-x-clause-gives : goal.walk_sequence-returns-in_err-x-clause-gives
walk_sequence-returns-in_err-x-clause-gives t c =
    sequence_stops c.walk_node.ensures.kept c.requires.0 _ _ _ _ c.walk_node.ensures.gives _ _ c.in_err-x.was (left_with c.from_residual.ensures)

pub walk_sequence-returns-in_default-clause-gives : goal.walk_sequence-returns-in_default-clause-gives
walk_sequence-returns-in_default-clause-gives t c =
    sequence_fails c.walk_node.ensures.kept c.requires.0 _ _ _ _ c.walk_node.ensures.gives _ _ (c.in_ok-x.was ∙ ap Ok c.in_default.is)

pub walk_sequence-overflow_add-at : goal.walk_sequence-overflow_add-at
walk_sequence-overflow_add-at t c =
    omega (arith, (node_found c.walk_node.ensures.kept c.requires.0 _ _ _ _ c.walk_node.ensures.gives (c.in_ok-x.was ∙ ap Ok c.in-Some.is)).in_text, c.args.self.now.short)

pub walk_sequence-walk_node-requires-2 : goal.walk_sequence-walk_node-requires-2
walk_sequence-walk_node-requires-2 t c =
    let f = node_found c.walk_node.ensures.kept c.requires.0 _ _ _ _ c.walk_node.ensures.gives (c.in_ok-x.was ∙ ap Ok c.in-Some.is) in (omega arith, (steady c.walk_node.ensures.kept c.requires.0 f.in_text (omega arith), c.requires.2))

pub walk_sequence-returns-in_err-y-clause-gives : goal.walk_sequence-returns-in_err-y-clause-gives
walk_sequence-returns-in_err-y-clause-gives t c =
    sequence_second_stops c.walk_node.ensures.kept c.requires.0 _ _ _ _ c.walk_node.ensures.gives (c.in_ok-x.was ∙ ap Ok c.in-Some.is) _ c.walk_node-2.ensures.gives _ c.in_err-y.was (left_with c.from_residual-in_err-y.ensures)

pub walk_sequence-returns-in_default-2-clause-gives : goal.walk_sequence-returns-in_default-2-clause-gives
walk_sequence-returns-in_default-2-clause-gives t c =
    sequence_second_fails c.walk_node.ensures.kept c.requires.0 _ _ _ _ c.walk_node.ensures.gives (c.in_ok-x.was ∙ ap Ok c.in-Some.is) _ c.walk_node-2.ensures.gives _ (c.in_ok-y.was ∙ ap Ok c.in_default-2.is)

pub walk_sequence-overflow_add-result : goal.walk_sequence-overflow_add-result
walk_sequence-overflow_add-result t c =
    omega (arith, sequence_in_text c.walk_node.ensures.kept c.requires.0 _ _ _ _ c.walk_node.ensures.gives (c.in_ok-x.was ∙ ap Ok c.in-Some.is) _ c.walk_node-2.ensures.gives (c.in_ok-y.was ∙ ap Ok c.in-Some-2.is), c.args.self.now.short)

pub walk_sequence-returns-clause-gives : goal.walk_sequence-returns-clause-gives
walk_sequence-returns-clause-gives t c =
    sequence_both c.walk_node.ensures.kept c.requires.0 _ _ _ _ c.walk_node.ensures.gives (c.in_ok-x.was ∙ ap Ok c.in-Some.is) _ c.walk_node-2.ensures.gives _ (c.in_ok-y.was ∙ ap Ok c.in-Some-2.is)

pub walk_star-loop-x-init : goal.walk_star-loop-x-init
walk_star-loop-x-init t c =
    (record { slots_are = refl; grammar_is = refl; text_is = refl; table_is = refl; room_is = refl }, star_start c.requires.0)

pub walk_star-returns-in_err-x-clause-gives : goal.walk_star-returns-in_err-x-clause-gives
walk_star-returns-in_err-x-clause-gives t c =
    star_stops c.loop-x.invariant.0 c.loop-x.invariant.1 c.walk_part.ensures.kept c.walk_part.ensures.gives c.in_err-x.was (left_with c.from_residual.ensures)

pub walk_star-returns-in_default-clause-gives : goal.walk_star-returns-in_default-clause-gives
walk_star-returns-in_default-clause-gives t c =
    star_last c.loop-x.invariant.0 c.loop-x.invariant.1 c.walk_part.ensures.kept c.walk_part.ensures.gives (c.in_ok-x.was ∙ ap Ok c.in_default.is)

pub walk_star-returns-then-x-eq0-clause-gives : goal.walk_star-returns-then-x-eq0-clause-gives
walk_star-returns-then-x-eq0-clause-gives t c =
    star_still c.loop-x.invariant.0 c.loop-x.invariant.1 c.walk_part.ensures.kept c.walk_part.ensures.gives (c.in_ok-x.was ∙ ap Ok c.in-Some.is) c.if-x-eq0.true

pub walk_star-overflow_add-before : goal.walk_star-overflow_add-before
walk_star-overflow_add-before t c =
    omega (arith, star_in_text c.loop-x.invariant.0 c.loop-x.invariant.1 c.walk_part.ensures.kept c.walk_part.ensures.gives (c.in_ok-x.was ∙ ap Ok c.in-Some.is), c.args.self.now.short)

pub walk_star-loop-x-smaller : goal.walk_star-loop-x-smaller
walk_star-loop-x-smaller t c =
    let ne = c.if-x-eq0.false in omega (arith, ne, star_in_text c.loop-x.invariant.0 c.loop-x.invariant.1 c.walk_part.ensures.kept c.walk_part.ensures.gives (c.in_ok-x.was ∙ ap Ok c.in-Some.is), ap length c.loop-x.invariant.0.text_is, ap length c.walk_part.ensures.kept.text_is)

pub walk_star-loop-x-preserved : goal.walk_star-loop-x-preserved
walk_star-loop-x-preserved t c =
    (kept_on c.walk_part.ensures.kept c.loop-x.invariant.0, star_more c.loop-x.invariant.0 c.loop-x.invariant.1 c.walk_part.ensures.kept c.walk_part.ensures.gives (c.in_ok-x.was ∙ ap Ok c.in-Some.is) c.if-x-eq0.false)
