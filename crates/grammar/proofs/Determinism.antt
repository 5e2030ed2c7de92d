-- One evaluation: whatever answers the calls, a subject at a position has at most one evaluation, all four components included.
--     one      two evaluations of the same are equal
--     still    after a matched round of length 0 the rounds of a star have none
--     no_record    an answer by the body is not one by a record
-- Assumes nothing.
use Prim.Native.Nat.{ℕ, ◌+◌}
use native.Mathlib.Omega.{arith}
use native.Mathlib.Nat.{add-zero}
use mathlib.Core.Path.{◌≡◌, sym, ◌∙◌, ap, subst}
use mathlib.Core.Bool.{true, false, true≢false}
use mathlib.Core.List.{List}
use Rattle.grammar.specs.declared.Evaluation.{Evaluation}
use Rattle.grammar.specs.Image.{node}
use Rattle.grammar.specs.Evaluates.{Evaluates, Subject, CallAnswer, by_body, by_record, a_node, rounds_of}
use Rattle.grammar.specs.Evaluates.{first_failed, in_sequence, taken_over, second_choice, last_round, round_then, negated}
use Rattle.grammar.specs.Evaluates.{ev_empty, ev_terminal, ev_then_first_fails, ev_then, ev_else_first, ev_else_second}
use Rattle.grammar.specs.Evaluates.{ev_star, ev_last_round, ev_round, ev_not, ev_call, ev_body, ev_record}

matched_once : {x y : Evaluation} → x ≡ y → x.matched ≡ true → y.matched ≡ false → ⊥
matched_once e t f = true≢false (sym t ∙ ap (λ (u : Evaluation). u.matched) e ∙ f)

pub no_record : {z : Evaluation} → by_body ≡ by_record z → ⊥
no_record e = let zero_is_1 : ◌≡◌ {A = ℕ} 0 1 = cc e in omega arith

record_inj : {y z : Evaluation} → by_record y ≡ by_record z → y ≡ z
record_inj e = cc e

module _ (img text : List ℕ) (answers : ℕ → ℕ → CallAnswer) where
  pub one : {s : Subject} {p : ℕ} {y z : Evaluation} → Evaluates img text answers s p y → Evaluates img text answers s p z → y ≡ z
  one (ev_empty e) (ev_empty f) = e ∙ sym f
  one (ev_terminal e) (ev_terminal f) = e ∙ sym f
  one (ev_then_first_fails a m e) (ev_then_first_fails a' m' f) = e ∙ ap first_failed (one a a') ∙ sym f
  one (ev_then_first_fails a m e) (ev_then a' m' b' f) = absurd (matched_once (sym (one a a')) m' m)
  one (ev_then a m b e) (ev_then_first_fails a' m' f) = absurd (matched_once (one a a') m m')
  one {p = p} (ev_then {b = d} {x = x} {y = y} a m b e) (ev_then {x = x'} {y = y'} a' m' b' f) =
      let k = one a a' in
      let h = one b (subst (λ (u : Evaluation). Evaluates img text answers (a_node (node img d)) (p + u.length) y') (sym k) b') in
      e ∙ ap (λ (u : Evaluation). in_sequence u y) k ∙ ap (in_sequence x') h ∙ sym f
  one (ev_else_first a m e) (ev_else_first a' m' f) = e ∙ ap taken_over (one a a') ∙ sym f
  one (ev_else_first a m e) (ev_else_second a' m' b' f) = absurd (matched_once (one a a') m m')
  one (ev_else_second a m b e) (ev_else_first a' m' f) = absurd (matched_once (sym (one a a')) m' m)
  one (ev_else_second {x = x} {y = y} a m b e) (ev_else_second {x = x'} {y = y'} a' m' b' f) =
      e ∙ ap (λ (u : Evaluation). second_choice u y) (one a a') ∙ ap (second_choice x') (one b b') ∙ sym f
  one (ev_star a e) (ev_star a' f) = e ∙ ap taken_over (one a a') ∙ sym f
  one (ev_last_round a m e) (ev_last_round a' m' f) = e ∙ ap last_round (one a a') ∙ sym f
  one (ev_last_round a m e) (ev_round a' m' b' f) = absurd (matched_once (sym (one a a')) m' m)
  one (ev_round a m b e) (ev_last_round a' m' f) = absurd (matched_once (one a a') m m')
  one {p = p} (ev_round {a = d} {x = x} {y = y} a m b e) (ev_round {x = x'} {y = y'} a' m' b' f) =
      let k = one a a' in
      let h = one b (subst (λ (u : Evaluation). Evaluates img text answers (rounds_of d) (p + u.length) y') (sym k) b') in
      e ∙ ap (λ (u : Evaluation). round_then u y) k ∙ ap (round_then x') h ∙ sym f
  one (ev_not a e) (ev_not a' f) = e ∙ ap negated (one a a') ∙ sym f
  one (ev_call a e) (ev_call a' f) = e ∙ ap taken_over (one a a') ∙ sym f
  one (ev_body q a) (ev_body q' a') = one a a'
  one (ev_body q a) (ev_record q') = absurd (no_record (sym q ∙ q'))
  one (ev_record q) (ev_body q' a') = absurd (no_record (sym q' ∙ q))
  one (ev_record q) (ev_record q') = record_inj (sym q ∙ q')

  -- A star has no evaluation where a matched round has length 0: the next round is the same.
  pub still : {a p : ℕ} {x z : Evaluation} → Evaluates img text answers (a_node (node img a)) p x → x.matched ≡ true → x.length ≡ 0 → Evaluates img text answers (rounds_of a) p z → ⊥
  still a m l (ev_last_round a' m' f) = absurd (matched_once (one a a') m m')
  still {a = c} {p = p} {x = x} a m l (ev_round {x = x'} a' m' b' f) =
      let k : x'.length ≡ 0 = ap (λ (u : Evaluation). u.length) (sym (one a a')) ∙ l in
      let q : p + x'.length ≡ p = ap (λ (n : ℕ). p + n) k ∙ add-zero p in
      still (subst (λ (n : ℕ). Evaluates img text answers (a_node (node img c)) n x) (sym q) a) m l b'
