-- The goals of the evaluator's cycle, method by method. Each answer is a way of packrat/proofs/Runs, Stars or Rules. Assumes nothing.
use Rattle.packrat.proofs.Rules.{rule_impossible, rule_too_deep, rule_met, rule_refused, rule_stored, node_too_deep, node_goes, word_goes, call_goes}
use Rattle.evaluator.proofs.Terminals.{terminal_goes, first_any, first_range}
use Rattle.grammar.proofs.Refusals.{left_with}
use Rattle.packrat.proofs.Rules.{was_possible, was_impossible}
use Rattle.evaluator.proofs.Steps.{answered, before, kept_on, ready_after, inside}
use Rattle.packrat.proofs.LoadedRuns.{word_is}
use Rattle.packrat.proofs.Stars.{rounds_start, round_refused, round_still, round_fails, round_goes, round_bounds}
use Rattle.packrat.proofs.Runs.{not_refused, not_answered, call_refused, call_answered, length_within}
use Rattle.packrat.proofs.Runs.{choice_refused, choice_first, choice_second_refused, choice_second}
use Rattle.packrat.proofs.Runs.{sequence_refused, sequence_failed, sequence_second_refused, joinable, sequence_both}
use Rattle.packrat.proofs.Gives.{gives_value, gives_refusal}
use Rattle.packrat.specs.Model.{kind_m}
use Rattle.records.specs.Words.{word_of, record_word}
use Rattle.records.specs.declared.Record.{Record}
use Rattle.evaluation.proofs.Shape.{empty_within}
use Rattle.grammar.specs.Evaluates.{empty_here}
use Rattle.std.proofs.Common.{ℕ, ◌+◌, get_or, sym, refl, ap, ◌∙◌, arith}
use Rattle.terminals.proofs.CharacterWords.{ascii_word}
use Rattle.evaluator.specs.Runs.{node_run, rule_run}
use Rattle.evaluator.proofs.run.Run.+eval.Goals as goal

pub eval_call-returns-in_err-x-clause-gives : goal.eval_call-returns-in_err-x-clause-gives
eval_call-returns-in_err-x-clause-gives t c =
    rw (left_with c.from_residual.ensures) (call_refused _ _ _ _ _ c.args.self.now.short c.requires.most _ c.in_err-x.ensures.gives)

pub eval_call-taken_over-requires : goal.eval_call-taken_over-requires
eval_call-taken_over-requires t c =
    answered c.requires c.in_ok-x.ensures.gives

pub eval_call-returns-clause-gives : goal.eval_call-returns-clause-gives
eval_call-returns-clause-gives t c =
    call_answered _ _ _ _ _ c.args.self.now.short c.requires.most _ c.in_ok-x.ensures.gives c.taken_over.ensures

pub eval_choice-returns-in_err-x-clause-gives : goal.eval_choice-returns-in_err-x-clause-gives
eval_choice-returns-in_err-x-clause-gives t c =
    rw (left_with c.from_residual.ensures) (choice_refused _ _ _ _ _ c.args.self.now.short c.requires.0.most _ _ c.in_err-x.ensures.gives)

pub eval_choice-taken_over-requires : goal.eval_choice-taken_over-requires
eval_choice-taken_over-requires t c =
    answered c.requires.0 c.in_ok-x.ensures.gives

pub eval_choice-returns-then-matched_of-clause-gives : goal.eval_choice-returns-then-matched_of-clause-gives
eval_choice-returns-then-matched_of-clause-gives t c =
    choice_first _ _ _ _ _ c.args.self.now.short c.requires.0.most _ _ c.in_ok-x.ensures.gives (sym c.matched_of.ensures ∙ c.if-matched_of.true) c.taken_over.ensures

pub eval_choice-returns-in_err-y-clause-gives : goal.eval_choice-returns-in_err-y-clause-gives
eval_choice-returns-in_err-y-clause-gives t c =
    rw (left_with c.from_residual-in_err-y.ensures)
    (choice_second_refused _ _ _ _ _ c.args.self.now.short c.requires.0.most _ _ c.in_ok-x.ensures.gives (sym c.matched_of.ensures ∙ c.if-matched_of.false) (before c.args.self.now c.eval_node.new.self _ _ _ c.eval_node.ensures.kept refl c.in_err-y.ensures.gives))

pub eval_choice-second_choice-requires : goal.eval_choice-second_choice-requires
eval_choice-second_choice-requires t c =
    ((answered c.requires.0 c.in_ok-x.ensures.gives).1, (answered c.requires.0 (before c.args.self.now c.eval_node.new.self _ _ _ c.eval_node.ensures.kept refl c.in_ok-y.ensures.gives)).1)

pub eval_choice-returns-clause-gives : goal.eval_choice-returns-clause-gives
eval_choice-returns-clause-gives t c =
    choice_second _ _ _ _ _ c.args.self.now.short c.requires.0.most _ _ c.in_ok-x.ensures.gives (sym c.matched_of.ensures ∙ c.if-matched_of.false) (before c.args.self.now c.eval_node.new.self _ _ _ c.eval_node.ensures.kept refl c.in_ok-y.ensures.gives) c.second_choice.ensures

pub eval_node-returns-then-left-eq0-clause-gives : goal.eval_node-returns-then-left-eq0-clause-gives
eval_node-returns-then-left-eq0-clause-gives t c =
    node_too_deep _ _ _ _ _ _ _ c.if-left-eq0.true

pub eval_node-returns-then-first-eq-PLAIN_RANGE-clause-gives : goal.eval_node-returns-then-first-eq-PLAIN_RANGE-clause-gives
eval_node-returns-then-first-eq-PLAIN_RANGE-clause-gives t c =
    let word = get_or c.args.self.now.grammar.now.words c.args.node 0 in
    let ne = c.if-left-eq0.false in
    node_goes _ _ _ _ _ _ _ ne
    (terminal_goes _ _ _ _ _ _ _ c.requires.0.here (omega (arith, ne)) (first_range word c.node_of-fields.ensures (sym c.first_byte-first.ensures ∙ c.if-first-eq-PLAIN_RANGE.true)) c.byte_between.ensures)

pub eval_node-returns-then-is_ascii-clause-gives : goal.eval_node-returns-then-is_ascii-clause-gives
eval_node-returns-then-is_ascii-clause-gives t c =
    let word = get_or c.args.self.now.grammar.now.words c.args.node 0 in
    let ne = c.if-left-eq0.false in
    node_goes _ _ _ _ _ _ _ ne
    (terminal_goes _ _ _ _ _ _ _ c.requires.0.here (omega (arith, ne)) (first_any word (sym c.first_byte-first.ensures ∙ c.if-first-eq-ANY.true)) (ascii_word _ _ (sym c.is_ascii.ensures ∙ c.if-is_ascii.true)))

pub eval_node-returns-clause-gives : goal.eval_node-returns-clause-gives
eval_node-returns-clause-gives t c =
    node_goes _ _ _ _ _ _ _ c.if-left-eq0.false c.eval_word.ensures.gives

pub eval_not-returns-in_err-x-clause-gives : goal.eval_not-returns-in_err-x-clause-gives
eval_not-returns-in_err-x-clause-gives t c =
    rw (left_with c.from_residual.ensures) (not_refused _ _ _ _ _ c.args.self.now.short c.requires.0.most _ c.in_err-x.ensures.gives)

pub eval_not-negated_answer-requires : goal.eval_not-negated_answer-requires
eval_not-negated_answer-requires t c =
    (answered c.requires.0 c.in_ok-x.ensures.gives).1

pub eval_not-returns-clause-gives : goal.eval_not-returns-clause-gives
eval_not-returns-clause-gives t c =
    not_answered _ _ _ _ _ c.args.self.now.short c.requires.0.most _ c.in_ok-x.ensures.gives c.negated_answer.ensures

pub eval_sequence-returns-in_err-x-clause-gives : goal.eval_sequence-returns-in_err-x-clause-gives
eval_sequence-returns-in_err-x-clause-gives t c =
    rw (left_with c.from_residual.ensures) (sequence_refused _ _ _ _ _ c.args.self.now.short c.requires.0.most _ _ c.in_err-x.ensures.gives)

pub eval_sequence-first_failed-requires : goal.eval_sequence-first_failed-requires
eval_sequence-first_failed-requires t c =
    (answered c.requires.0 c.in_ok-x.ensures.gives).1

pub eval_sequence-returns-then-not-matched_of-clause-gives : goal.eval_sequence-returns-then-not-matched_of-clause-gives
eval_sequence-returns-then-not-matched_of-clause-gives t c =
    sequence_failed _ _ _ _ _ c.args.self.now.short c.requires.0.most _ _ c.in_ok-x.ensures.gives (sym c.matched_of.ensures ∙ c.if-not-matched_of.true) c.first_failed.ensures

pub eval_sequence-eval_node-requires-2 : goal.eval_sequence-eval_node-requires-2
eval_sequence-eval_node-requires-2 t c =
    let most = c.requires.0.most in
    let inside = length_within c.args.self.now.short (omega arith) c.in_ok-x.ensures.gives in
    (omega arith, (ready_after c.args.self.now c.eval_node.new.self c.eval_node.ensures.kept c.requires.0 (omega (arith, c.length_of.ensures.0)), c.requires.2))

pub eval_sequence-returns-in_err-y-clause-gives : goal.eval_sequence-returns-in_err-y-clause-gives
eval_sequence-returns-in_err-y-clause-gives t c =
    rw (left_with c.from_residual-in_err-y.ensures)
    (sequence_second_refused _ _ _ _ _ c.args.self.now.short c.requires.0.most _ _ c.in_ok-x.ensures.gives (sym c.matched_of.ensures ∙ c.if-not-matched_of.false)
    (before c.args.self.now c.eval_node.new.self _ _ _ c.eval_node.ensures.kept (ap (λ (l : ℕ). c.args.at + l) c.length_of.ensures.0) c.in_err-y.ensures.gives))

pub eval_sequence-in_sequence-requires : goal.eval_sequence-in_sequence-requires
eval_sequence-in_sequence-requires t c =
    let a = c.args in
    let run = a.self.now in
    joinable run.text.now (node_run run a.left) (rule_run run a.left a.b) run.table.now run.count run.short c.requires.0.most a.a a.b c.in_ok-x.ensures.gives (sym c.matched_of.ensures ∙ c.if-not-matched_of.false)
    (before c.args.self.now c.eval_node.new.self _ _ _ c.eval_node.ensures.kept (ap (λ (l : ℕ). c.args.at + l) c.length_of.ensures.0) c.in_ok-y.ensures.gives)

pub eval_sequence-returns-clause-gives : goal.eval_sequence-returns-clause-gives
eval_sequence-returns-clause-gives t c =
    sequence_both _ _ _ _ _ c.args.self.now.short c.requires.0.most _ _ c.in_ok-x.ensures.gives (sym c.matched_of.ensures ∙ c.if-not-matched_of.false)
    (before c.args.self.now c.eval_node.new.self _ _ _ c.eval_node.ensures.kept (ap (λ (l : ℕ). c.args.at + l) c.length_of.ensures.0) c.in_ok-y.ensures.gives)
    c.in_sequence.ensures

pub eval_rule-returns-in_default-clause-gives : goal.eval_rule-returns-in_default-clause-gives
eval_rule-returns-in_default-clause-gives t c =
    rule_impossible _ _ _ _ _ _ _ _ _ c.look-word.ensures (sym c.is_held.ensures ∙ c.if-is_held.true)
    (was_impossible _ _ (sym c.in_default.is ∙ c.from_word.ensures))

pub eval_rule-returns-then-left-held-clause-gives : goal.eval_rule-returns-then-left-held-clause-gives
eval_rule-returns-then-left-held-clause-gives t c =
    let m = was_possible _ _ _ (sym c.in-Some.is ∙ c.from_word.ensures) in
    let e = ap (λ (r : Record). r.nesting) m.1 in
    rule_too_deep _ _ _ _ _ _ _ _ _ c.look-word.ensures (sym c.is_held.ensures ∙ c.if-is_held.true) m.0 (omega (arith, e, c.if-left-held.true))

pub eval_rule-returns-then-is_held-clause-gives : goal.eval_rule-returns-then-is_held-clause-gives
eval_rule-returns-then-is_held-clause-gives t c =
    let m = was_possible _ _ _ (sym c.in-Some.is ∙ c.from_word.ensures) in
    let e = ap (λ (r : Record). r.nesting) m.1 in
    rule_met _ _ _ _ _ _ _ _ _ c.look-word.ensures (sym c.is_held.ensures ∙ c.if-is_held.true) m.0 (omega (arith, e, c.if-left-held.false)) (c.word.ensures ∙ ap record_word m.1)

pub eval_rule-returns-in_err-value-clause-gives : goal.eval_rule-returns-in_err-value-clause-gives
eval_rule-returns-in_err-value-clause-gives t c =
    rw (left_with c.from_residual.ensures)
    (rule_refused _ _ _ _ _ _ _ _ _ c.look-word.ensures c.args.self.now.short c.requires.most (sym c.is_held.ensures ∙ c.if-is_held.false) c.in_err-value.ensures.gives)

pub eval_rule-returns-clause-gives : goal.eval_rule-returns-clause-gives
eval_rule-returns-clause-gives t c =
    rw c.put.ensures
    (rule_stored _ _ _ _ _ _ _ _ _ c.look-word.ensures c.args.self.now.short c.requires.most (sym c.is_held.ensures ∙ c.if-is_held.false) c.in_ok-value.ensures.gives)

pub eval_star-loop-x-init : goal.eval_star-loop-x-init
eval_star-loop-x-init t c =
    ((refl, refl, refl), rounds_start _ _ _ _ _ _ _ c.requires.0.here)

pub eval_star-returns-in_err-x-clause-gives : goal.eval_star-returns-in_err-x-clause-gives
unfolding kind_m
eval_star-returns-in_err-x-clause-gives t c =
    rw (left_with c.from_residual.ensures)
    (gives_refusal (round_refused _ _ c.args.self.now.short c.requires.0.most c.loop-x.invariant.1 (before c.args.self.now c.loop-x.self _ _ _ c.loop-x.invariant.0 refl c.in_err-x.ensures.gives)))

pub eval_star-answer-requires : goal.eval_star-answer-requires
eval_star-answer-requires t c =
    let run = c.args.self.now in
    let most = c.requires.0.most in
    let so_far = c.loop-x.invariant in
    let b = round_bounds _ _ run.short most so_far.1 (before run c.loop-x.self _ _ _ so_far.0 refl c.in_ok-x.ensures.gives) in
    let d = (rw c.examined_of.ensures.0 at c.max-examined.ensures) in
    let e = (rw c.nesting_of.ensures.0 at c.max-deepest.ensures) in
    (omega (arith, b.1, most), omega (arith, b.0, run.short), omega (arith, so_far.1.in_text, run.short))

pub eval_star-returns-then-not-matched_of-clause-gives : goal.eval_star-returns-then-not-matched_of-clause-gives
eval_star-returns-then-not-matched_of-clause-gives t c =
    let so_far = c.loop-x.invariant in
    round_fails _ _ c.args.self.now.short c.requires.0.most so_far.1 (before c.args.self.now c.loop-x.self _ _ _ so_far.0 refl c.in_ok-x.ensures.gives) _ _ _ _ refl (sym c.matched_of.ensures ∙ c.if-not-matched_of.true) (rw c.examined_of.ensures.0 at c.max-examined.ensures) (rw c.nesting_of.ensures.0 at c.max-deepest.ensures) c.answer.ensures

pub eval_star-returns-then-length-eq0-clause-gives : goal.eval_star-returns-then-length-eq0-clause-gives
unfolding kind_m
eval_star-returns-then-length-eq0-clause-gives t c =
    let so_far = c.loop-x.invariant in
    gives_refusal (round_still _ _ c.args.self.now.short c.requires.0.most so_far.1 (before c.args.self.now c.loop-x.self _ _ _ so_far.0 refl c.in_ok-x.ensures.gives) (sym c.matched_of.ensures ∙ c.if-not-matched_of.false) (sym c.length_of-length.ensures.0 ∙ c.if-length-eq0.true))

pub eval_star-loop-x-smaller : goal.eval_star-loop-x-smaller
eval_star-loop-x-smaller t c =
    let most = c.requires.0.most in
    let ne = c.if-length-eq0.false in
    let inside = length_within c.args.self.now.short (omega arith) (before c.args.self.now c.loop-x.self _ _ _ c.loop-x.invariant.0 refl c.in_ok-x.ensures.gives) in
    omega (arith, c.length_of-length.ensures.0, ne)

pub eval_star-loop-x-preserved : goal.eval_star-loop-x-preserved
eval_star-loop-x-preserved t c =
    let so_far = c.loop-x.invariant in (
      kept_on c.args.self.now c.loop-x.self c.eval_node.new.self so_far.0 c.eval_node.ensures.kept,
      round_goes _ _ c.args.self.now.short c.requires.0.most so_far.1 (before c.args.self.now c.loop-x.self _ _ _ so_far.0 refl c.in_ok-x.ensures.gives) (sym c.matched_of.ensures ∙ c.if-not-matched_of.false) (rw c.examined_of.ensures.0 at c.max-examined.ensures) (rw c.nesting_of.ensures.0 at c.max-deepest.ensures) c.length_of-length.ensures.0 c.if-length-eq0.false,
    )

pub eval_word-eval_sequence-requires : goal.eval_word-eval_sequence-requires
eval_word-eval_sequence-requires t c =
    let r = inside c.args.self.now c.args.word c.requires c.node_of-fields.ensures c.from.ensures c.in-Sequence.is in
    (omega (arith, c.requires.1), (r.0, r.1.0, r.1.1))

pub eval_word-eval_choice-requires : goal.eval_word-eval_choice-requires
eval_word-eval_choice-requires t c =
    let r = inside c.args.self.now c.args.word c.requires c.node_of-fields.ensures c.from.ensures c.in-Choice.is in
    (omega (arith, c.requires.1), (r.0, r.1.0, r.1.1))

pub eval_word-eval_star-requires : goal.eval_word-eval_star-requires
eval_word-eval_star-requires t c =
    (omega (arith, c.requires.1), inside c.args.self.now c.args.word c.requires c.node_of-fields.ensures c.from.ensures c.in-Star.is)

pub eval_word-eval_not-requires : goal.eval_word-eval_not-requires
eval_word-eval_not-requires t c =
    (omega (arith, c.requires.1), inside c.args.self.now c.args.word c.requires c.node_of-fields.ensures c.from.ensures c.in-NotPredicate.is)

pub eval_word-eval_call-requires : goal.eval_word-eval_call-requires
eval_word-eval_call-requires t c =
    (omega (arith, c.requires.1), (inside c.args.self.now c.args.word c.requires c.node_of-fields.ensures c.from.ensures c.in-Call.is).0)

pub eval_word-invariant_of-body : goal.eval_word-invariant_of-body
eval_word-invariant_of-body t c =
    record {
      rule_fits = (inside c.args.self.now c.args.word c.requires c.node_of-fields.ensures c.from.ensures c.in-Call.is).1;
      root_fits = omega (arith, c.node_of-fields.ensures.its_b);
    }

pub eval_word-returns-in-Empty-clause-gives : goal.eval_word-returns-in-Empty-clause-gives
unfolding kind_m word_of
eval_word-returns-in-Empty-clause-gives t c =
    let pre = c.requires in
    word_goes _ _ _ _ _ _ _ (λ z. let l = pre.1 in omega arith) (word_is c.args.word c.node_of-fields.ensures (sym c.from.ensures ∙ c.in-Empty.is)) (gives_value empty_here refl refl (empty_within pre.0.here) (omega arith))

pub eval_word-returns-in-Text-clause-gives : goal.eval_word-returns-in-Text-clause-gives
eval_word-returns-in-Text-clause-gives t c =
    terminal_goes _ _ _ _ _ _ _ c.requires.0.here c.requires.1 (word_is c.args.word c.node_of-fields.ensures (sym c.from.ensures ∙ c.in-Text.is)) c.terminal.ensures

pub eval_word-returns-in-Sequence-clause-gives : goal.eval_word-returns-in-Sequence-clause-gives
unfolding kind_m
eval_word-returns-in-Sequence-clause-gives t c =
    word_goes _ _ _ _ _ _ _ (λ z. let l = c.requires.1 in omega arith) (word_is c.args.word c.node_of-fields.ensures (sym c.from.ensures ∙ c.in-Sequence.is)) c.eval_sequence.ensures.gives

pub eval_word-returns-in-Choice-clause-gives : goal.eval_word-returns-in-Choice-clause-gives
unfolding kind_m
eval_word-returns-in-Choice-clause-gives t c =
    word_goes _ _ _ _ _ _ _ (λ z. let l = c.requires.1 in omega arith) (word_is c.args.word c.node_of-fields.ensures (sym c.from.ensures ∙ c.in-Choice.is)) c.eval_choice.ensures.gives

pub eval_word-returns-in-Star-clause-gives : goal.eval_word-returns-in-Star-clause-gives
unfolding kind_m
eval_word-returns-in-Star-clause-gives t c =
    word_goes _ _ _ _ _ _ _ (λ z. let l = c.requires.1 in omega arith) (word_is c.args.word c.node_of-fields.ensures (sym c.from.ensures ∙ c.in-Star.is)) c.eval_star.ensures.gives

pub eval_word-returns-in-NotPredicate-clause-gives : goal.eval_word-returns-in-NotPredicate-clause-gives
unfolding kind_m
eval_word-returns-in-NotPredicate-clause-gives t c =
    word_goes _ _ _ _ _ _ _ (λ z. let l = c.requires.1 in omega arith) (word_is c.args.word c.node_of-fields.ensures (sym c.from.ensures ∙ c.in-NotPredicate.is)) c.eval_not.ensures.gives

pub eval_word-returns-in-Call-clause-gives : goal.eval_word-returns-in-Call-clause-gives
unfolding kind_m
eval_word-returns-in-Call-clause-gives t c =
    call_goes _ _ _ _ _ _ _ (λ z. let l = c.requires.1 in omega arith) c.node_of-fields.ensures.its_b (word_is c.args.word c.node_of-fields.ensures (sym c.from.ensures ∙ c.in-Call.is)) c.eval_call.ensures.gives

pub eval_word-returns-in-Unlawful-clause-gives : goal.eval_word-returns-in-Unlawful-clause-gives
unfolding kind_m
eval_word-returns-in-Unlawful-clause-gives t c =
    word_goes _ _ _ _ _ _ _ (λ z. let l = c.requires.1 in omega arith) (word_is c.args.word c.node_of-fields.ensures (sym c.from.ensures ∙ c.in-Unlawful.is)) (gives_refusal refl)
