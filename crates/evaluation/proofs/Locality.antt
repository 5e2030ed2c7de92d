-- What an evaluation examined decides it.
--     prefix_decides   a text with the same bytes up to where it examined gives the same evaluation; where it examined the end, p +
--                      examined is n + 1 and no such text is asked
--     moved            what stands before the position does not matter: an evaluation moves with the rest of the text, the end included
-- CallLocality says the same of the pairs called, and Relocation has the way back. Proved from the terminal's laws. Assumes nothing.
use Prim.Native.Nat.{ℕ, ◌+◌, ◌≤◌}
use native.Mathlib.Omega.{arith}
use mathlib.Core.Path.{◌≡◌, sym, ap, ◌∙◌}
use mathlib.Core.List.{List, ◌++◌}
use lib.ListN.{length, take}
use Rattle.grammar.specs.declared.Evaluation.{Evaluation}
use Rattle.grammar.specs.Evaluates.{Evaluates, Fresh, Subject, CallAnswer}
use Rattle.grammar.specs.Evaluates.{ev_empty, ev_terminal, ev_then_first_fails, ev_then, ev_else_first, ev_else_second}
use Rattle.grammar.specs.Evaluates.{ev_star, ev_last_round, ev_round, ev_not, ev_call, ev_body, ev_record}
use Rattle.grammar.specs.Terminal.{terminal_at}
use Rattle.grammar.proofs.Terminals.{prefix, suffix}
use Rattle.grammar.proofs.Determinism.{no_record}

-- The examined length of an evaluation, from an equation with it.
pub seen : {x z : Evaluation} → z ≡ x → x.examined ≡ z.examined
seen e = ap (λ (v : Evaluation). v.examined) (sym e)

-- And its nesting.
pub nested : {y z : Evaluation} → z ≡ y → z.nesting ≡ y.nesting
nested e = ap (λ (v : Evaluation). v.nesting) e

module _ (img text other : List ℕ) (answers : ℕ → ℕ → CallAnswer) (m : ℕ)
    (in_text : m ≤ length text) (in-other : m ≤ length other) (agree : take m text ≡ take m other)
  where
    unfoldable pub prefix_decides :
        {s : Subject} {p : ℕ} {z : Evaluation}
        → Evaluates img text answers s p z
        → p + z.examined ≤ m
        → Evaluates img other answers s p z
    prefix_decides (ev_empty e) h = ev_empty e
    prefix_decides {p = p} (ev_terminal {t} e) h =
        ev_terminal (e ∙ sym (prefix t text other p m in_text in-other agree (let k = seen e in omega arith)))
    prefix_decides (ev_then_first_fails u a e) h = ev_then_first_fails (prefix_decides u (let k = seen e in omega arith)) a e
    prefix_decides (ev_then u a v e) h =
        ev_then (prefix_decides u (let k = seen e in omega arith)) a (prefix_decides v (let k = seen e in omega arith)) e
    prefix_decides (ev_else_first u a e) h = ev_else_first (prefix_decides u (let k = seen e in omega arith)) a e
    prefix_decides (ev_else_second u a v e) h =
        ev_else_second (prefix_decides u (let k = seen e in omega arith)) a (prefix_decides v (let k = seen e in omega arith)) e
    prefix_decides (ev_star u e) h = ev_star (prefix_decides u (let k = seen e in omega arith)) e
    prefix_decides (ev_last_round u a e) h = ev_last_round (prefix_decides u (let k = seen e in omega arith)) a e
    prefix_decides (ev_round u a v e) h =
        ev_round (prefix_decides u (let k = seen e in omega arith)) a (prefix_decides v (let k = seen e in omega arith)) e
    prefix_decides (ev_not u e) h = ev_not (prefix_decides u (let k = seen e in omega arith)) e
    prefix_decides (ev_call u e) h = ev_call (prefix_decides u (let k = seen e in omega arith)) e
    prefix_decides (ev_body q u) h = ev_body q (prefix_decides u h)
    prefix_decides (ev_record q) h = ev_record q

module _ (img before text : List ℕ) where
  unfoldable pub moved :
      {s : Subject} {p : ℕ} {z : Evaluation}
      → Fresh img text s p z
      → (q : ℕ)
      → q ≡ length before + p
      → Fresh img (before ++ text) s q z
  moved (ev_empty e) q h = ev_empty e
  moved {p = p} (ev_terminal {t} e) q h =
      ev_terminal (e ∙ sym (ap (λ (k : ℕ). terminal_at t (before ++ text) k) h ∙ suffix t before text p))
  moved (ev_then_first_fails u a e) q h = ev_then_first_fails (moved u q h) a e
  moved (ev_then {x = x} u a v e) q h = ev_then (moved u q h) a (moved v (q + x.length) (omega arith)) e
  moved (ev_else_first u a e) q h = ev_else_first (moved u q h) a e
  moved (ev_else_second u a v e) q h = ev_else_second (moved u q h) a (moved v q h) e
  moved (ev_star u e) q h = ev_star (moved u q h) e
  moved (ev_last_round u a e) q h = ev_last_round (moved u q h) a e
  moved (ev_round {x = x} u a v e) q h = ev_round (moved u q h) a (moved v (q + x.length) (omega arith)) e
  moved (ev_not u e) q h = ev_not (moved u q h) e
  moved (ev_call u e) q h = ev_call (moved u q h) e
  moved (ev_body b u) q h = ev_body b (moved u q h)
  moved (ev_record b) q h = absurd (no_record b)
