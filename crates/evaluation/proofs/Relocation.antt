-- An evaluation moves with the text behind it, and so do the pairs that it calls; the end of the text is included.
--     moved_back    an evaluation behind some text stands without it; behind the text its calls are those without it, later by its length
--     relocated     an evaluation in x ++ z stands at the moved position of y ++ z, with the moved calls
-- Proved from the terminal's laws. Assumes nothing.
use Prim.Native.Nat.{ℕ, ◌+◌}
use native.Mathlib.Omega.{arith}
use mathlib.Core.Path.{◌≡◌, refl, ap, ◌∙◌}
use mathlib.Core.List.{List, [], ◌∷◌, ◌++◌, map}
use lib.ListN.{length}
use Rattle.grammar.specs.declared.Evaluation.{Evaluation}
use Rattle.grammar.specs.Terminal.{terminal_at}
use Rattle.grammar.specs.Evaluates.{Fresh, Subject}
use Rattle.grammar.specs.Evaluates.{ev_empty, ev_terminal, ev_then_first_fails, ev_then, ev_else_first, ev_else_second}
use Rattle.grammar.specs.Evaluates.{ev_star, ev_last_round, ev_round, ev_not, ev_call, ev_body, ev_record}
use Rattle.grammar.proofs.Terminals.{suffix}
use Rattle.grammar.proofs.Determinism.{no_record}
use Rattle.evaluation.specs.Calls.{Pair, calls_of}
use Rattle.evaluation.proofs.Locality.{moved}
use Rattle.evaluation.proofs.CallLocality.{shifted, both, moved_calls}

-- An evaluation at p of a text, whose calls are these where so many bytes stand before it.
pub record Back (img text : List ℕ) (before : ℕ) (s : Subject) (p : ℕ) (z : Evaluation) (calls : List Pair) : Type 0 where
  pub evaluated : Fresh img text s p z
  pub calls_are : calls ≡ map (shifted before) (calls_of evaluated)

module _ (img before text : List ℕ) where
  pub moved_back :
      {s : Subject} {q : ℕ} {z : Evaluation} (u : Fresh img (before ++ text) s q z) (p : ℕ)
      → q ≡ length before + p
      → Back img text (length before) s p z (calls_of u)
  unfolding calls_of
  moved_back (ev_empty e) p h = record { evaluated = ev_empty e; calls_are = refl }
  moved_back (ev_terminal {t} e) p h =
      record {
        evaluated = ev_terminal (e ∙ ap (λ (k : ℕ). terminal_at t (before ++ text) k) h ∙ suffix t before text p);
        calls_are = refl;
      }
  moved_back (ev_then_first_fails u m e) p h =
      let x = moved_back u p h in record { evaluated = ev_then_first_fails x.evaluated m e; calls_are = x.calls_are }
  moved_back (ev_then {x = v} u m w e) p h =
      let x = moved_back u p h in
      let y = moved_back w (p + v.length) (omega arith) in
      record {
        evaluated = ev_then x.evaluated m y.evaluated e;
        calls_are = both (length before) x.evaluated y.evaluated x.calls_are y.calls_are;
      }
  moved_back (ev_else_first u m e) p h =
      let x = moved_back u p h in record { evaluated = ev_else_first x.evaluated m e; calls_are = x.calls_are }
  moved_back (ev_else_second u m w e) p h =
      let x = moved_back u p h in
      let y = moved_back w p h in
      record {
        evaluated = ev_else_second x.evaluated m y.evaluated e;
        calls_are = both (length before) x.evaluated y.evaluated x.calls_are y.calls_are;
      }
  moved_back (ev_star u e) p h =
      let x = moved_back u p h in record { evaluated = ev_star x.evaluated e; calls_are = x.calls_are }
  moved_back (ev_last_round u m e) p h =
      let x = moved_back u p h in record { evaluated = ev_last_round x.evaluated m e; calls_are = x.calls_are }
  moved_back (ev_round {x = v} u m w e) p h =
      let x = moved_back u p h in
      let y = moved_back w (p + v.length) (omega arith) in
      record {
        evaluated = ev_round x.evaluated m y.evaluated e;
        calls_are = both (length before) x.evaluated y.evaluated x.calls_are y.calls_are;
      }
  moved_back (ev_not u e) p h =
      let x = moved_back u p h in record { evaluated = ev_not x.evaluated e; calls_are = x.calls_are }
  moved_back (ev_call {r} u e) p h =
      let x = moved_back u p h in
      record { evaluated = ev_call x.evaluated e; calls_are = ap (λ (k : ℕ). record { rule = r; position = k } ∷ []) h }
  moved_back (ev_body q u) p h =
      let x = moved_back u p h in record { evaluated = ev_body q x.evaluated; calls_are = x.calls_are }
  moved_back (ev_record q) p h = absurd (no_record q)

-- The same evaluation at j of z, with x before z and with y. The pairs that it calls stand in z at the same places.
pub record Relocated (img x y z : List ℕ) (s : Subject) (j : ℕ) (v : Evaluation) (calls : List Pair) : Type 0 where
  pub evaluated : Fresh img (y ++ z) s (length y + j) v
  pub pairs : List Pair
  pub calls_before : calls ≡ map (shifted (length x)) pairs
  pub calls_after : calls_of evaluated ≡ map (shifted (length y)) pairs

pub relocated :
    (img x y z : List ℕ) {s : Subject} {v : Evaluation} (j : ℕ) (u : Fresh img (x ++ z) s (length x + j) v)
    → Relocated img x y z s j v (calls_of u)
relocated img x y z j u =
    let b = moved_back img x z u j refl in
    record {
      evaluated = moved img y z b.evaluated (length y + j) refl;
      pairs = calls_of b.evaluated;
      calls_before = b.calls_are;
      calls_after = moved_calls img y z b.evaluated (length y + j) refl;
    }
