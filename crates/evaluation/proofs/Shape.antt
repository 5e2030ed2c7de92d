-- The shape of evaluations: an evaluation at a position of the text stays in the text, examines no further than the end, examines
-- what it consumes, and a failure has length 0; where the records that answer calls have that shape too. Assumes nothing.
use Prim.Native.Nat.{ℕ, ◌+◌, ◌≤◌}
use native.Mathlib.Omega.{arith}
use mathlib.Core.Path.{◌≡◌, refl, ap}
use mathlib.Core.Bool.{Bool, true, false, true≢false}
use mathlib.Core.List.{List}
use lib.ListN.{length}
use Rattle.grammar.specs.declared.Evaluation.{Evaluation}
use Rattle.grammar.specs.declared.node.Terminal.{Terminal}
use Rattle.grammar.specs.Terminal.{terminal_at}
use Rattle.grammar.specs.Evaluates.{Evaluates, Subject, CallAnswer, by_record, length_if}
use Rattle.grammar.specs.Evaluates.{empty_here, first_failed, in_sequence, taken_over, second_choice, last_round, round_then, negated}
use Rattle.grammar.specs.Evaluates.{ev_empty, ev_terminal, ev_then_first_fails, ev_then, ev_else_first, ev_else_second}
use Rattle.grammar.specs.Evaluates.{ev_star, ev_last_round, ev_round, ev_not, ev_call, ev_body, ev_record}
use Rattle.grammar.proofs.Terminals.{shape}
use Rattle.evaluation.specs.Within.{Within}

-- One law for each way of combining.
module _ {n p : ℕ} where
  pub empty_within : p ≤ n → Within n p empty_here
  empty_within h =
      record { in_text = omega arith; up_to_end = omega arith; in_examined = omega arith; failure = λ e. refl; nested = omega arith }

  pub failed_within : {x : Evaluation} → Within n p x → Within n p (first_failed x)
  failed_within {x} w =
      record { in_text = omega arith; up_to_end = w.up_to_end; in_examined = omega arith; failure = λ e. refl; nested = omega arith }

  pub taken_within : {x : Evaluation} → Within n p x → Within n p (taken_over x)
  taken_within {x} w =
      record { in_text = w.in_text; up_to_end = w.up_to_end; in_examined = w.in_examined; failure = w.failure; nested = omega arith }

  pub negated_within : {x : Evaluation} → Within n p x → Within n p (negated x)
  negated_within {x} w =
      record { in_text = omega arith; up_to_end = w.up_to_end; in_examined = omega arith; failure = λ e. refl; nested = omega arith }

  pub last_within : {x : Evaluation} → Within n p x → Within n p (last_round x)
  last_within {x} w =
      record { in_text = omega arith; up_to_end = w.up_to_end; in_examined = omega arith; failure = λ e. refl; nested = w.nested }

  pub second_within : {x y : Evaluation} → Within n p x → Within n p y → Within n p (second_choice x y)
  second_within {x} {y} v w =
      record {
        in_text = w.in_text;
        up_to_end = omega (arith, v.up_to_end, w.up_to_end);
        in_examined = omega (arith, w.in_examined);
        failure = w.failure;
        nested = omega arith;
      }

  pub round_within : {x y : Evaluation} → Within n p x → Within n (p + x.length) y → Within n p (round_then x y)
  round_within {x} {y} v w =
      record {
        in_text = omega (arith, w.in_text);
        up_to_end = omega (arith, v.up_to_end, w.up_to_end);
        in_examined = omega (arith, w.in_examined);
        failure = λ e. absurd (true≢false e);
        nested = omega (arith, v.nested);
      }

  pub then_within : {x y : Evaluation} → Within n p x → Within n (p + x.length) y → Within n p (in_sequence x y)
  then_within {x} {y} v w =
      let e = at_most y.matched (x.length + y.length) in
      record {
        in_text = omega (arith, w.in_text);
        up_to_end = omega (arith, v.up_to_end, w.up_to_end);
        in_examined = omega (arith, w.in_examined);
        failure = λ e. ap (λ (b : Bool). length_if b (x.length + y.length)) e;
        nested = omega arith;
      }
    where
      at_most : (b : Bool) (l : ℕ) → length_if b l ≤ l
      at_most true l = omega arith
      at_most false l = omega arith

pub terminal_within : (t : Terminal) (text : List ℕ) (p : ℕ) → p ≤ length text → Within (length text) p (terminal_at t text p)
terminal_within t text p h =
    let s = shape t text p h in
    record {
      in_text = s.in_text;
      up_to_end = s.up_to_end;
      in_examined = s.in_examined;
      failure = s.failure;
      nested = omega (arith, s.flat);
    }

module _ (img text : List ℕ) (answers : ℕ → ℕ → CallAnswer)
    (records : (r p : ℕ) (x : Evaluation) → p ≤ length text → answers r p ≡ by_record x → Within (length text) p x)
  where
    pub within :
        {s : Subject} {p : ℕ} {z : Evaluation} → Evaluates img text answers s p z → p ≤ length text → Within (length text) p z
    within (ev_empty e) h = rw e (empty_within h)
    within {p = p} (ev_terminal {t} e) h = rw e (terminal_within t text p h)
    within (ev_then_first_fails a m e) h = rw e (failed_within (within a h))
    within (ev_then a m b e) h = let w = within a h in rw e (then_within w (within b w.in_text))
    within (ev_else_first a m e) h = rw e (taken_within (within a h))
    within (ev_else_second a m b e) h = rw e (second_within (within a h) (within b h))
    within (ev_star a e) h = rw e (taken_within (within a h))
    within (ev_last_round a m e) h = rw e (last_within (within a h))
    within (ev_round a m b e) h = let w = within a h in rw e (round_within w (within b w.in_text))
    within (ev_not a e) h = rw e (negated_within (within a h))
    within (ev_call a e) h = rw e (taken_within (within a h))
    within (ev_body q a) h = within a h
    within {p = p} {z = z} (ev_record {r} q) h = records r p z h q
