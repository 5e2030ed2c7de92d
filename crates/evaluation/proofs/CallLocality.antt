-- What an evaluation examined decides its calls too, and its calls move with the text. Assumes nothing.
use Prim.Native.Nat.{ℕ, ◌+◌, ◌≤◌}
use mathlib.Core.Path.{◌≡◌, refl, sym, ap, ◌∙◌}
use mathlib.Core.List.{List, [], ◌∷◌, ◌++◌, map, map-append}
use lib.ListN.{length, take}
use Rattle.grammar.specs.declared.Evaluation.{Evaluation}
use Rattle.grammar.specs.Evaluates.{Evaluates, Fresh, Subject, CallAnswer}
use Rattle.grammar.specs.Evaluates.{ev_empty, ev_terminal, ev_then_first_fails, ev_then, ev_else_first, ev_else_second}
use Rattle.grammar.specs.Evaluates.{ev_star, ev_last_round, ev_round, ev_not, ev_call, ev_body, ev_record}
use Rattle.grammar.proofs.Determinism.{no_record}
use Rattle.evaluation.specs.Calls.{Pair, calls_of}
use Rattle.evaluation.proofs.Locality.{prefix_decides, moved}
use Rattle.evaluation.proofs.Pairs.{one_by_one}

module _ (img text other : List ℕ) (answers : ℕ → ℕ → CallAnswer) (m : ℕ)
    (in_text : m ≤ length text) (in-other : m ≤ length other) (agree : take m text ≡ take m other)
  where
    pub prefix_calls :
        {s : Subject} {p : ℕ} {z : Evaluation} (u : Evaluates img text answers s p z) (h : p + z.examined ≤ m)
        → calls_of (prefix_decides img text other answers m in_text in-other agree u h) ≡ calls_of u
    unfolding calls_of prefix_decides
    prefix_calls (ev_empty e) h = refl
    prefix_calls (ev_terminal e) h = refl
    prefix_calls (ev_then_first_fails u a e) h = prefix_calls u _
    prefix_calls (ev_then u a v e) h = one_by_one (prefix_calls u _) (prefix_calls v _)
    prefix_calls (ev_else_first u a e) h = prefix_calls u _
    prefix_calls (ev_else_second u a v e) h = one_by_one (prefix_calls u _) (prefix_calls v _)
    prefix_calls (ev_star u e) h = prefix_calls u _
    prefix_calls (ev_last_round u a e) h = prefix_calls u _
    prefix_calls (ev_round u a v e) h = one_by_one (prefix_calls u _) (prefix_calls v _)
    prefix_calls (ev_not u e) h = prefix_calls u _
    prefix_calls (ev_call u e) h = refl
    prefix_calls (ev_body q u) h = prefix_calls u _
    prefix_calls (ev_record q) h = refl

-- The pair at a position that is later by k.
abbrev pub shifted : ℕ → Pair → Pair
shifted k x = record { rule = x.rule; position = k + x.position }

-- The calls of two parts, one after the other.
pub both :
    {img text : List ℕ} {answers : ℕ → ℕ → CallAnswer} {s t : Subject} {p q : ℕ} {x y : Evaluation} {us vs : List Pair} (k : ℕ)
    (u : Evaluates img text answers s p x) (v : Evaluates img text answers t q y)
    → us ≡ map (shifted k) (calls_of u)
    → vs ≡ map (shifted k) (calls_of v)
    → us ++ vs ≡ map (shifted k) (calls_of u ++ calls_of v)
both k u v a b = one_by_one a b ∙ sym (map-append (shifted k) (calls_of u) (calls_of v))

module _ (img before text : List ℕ) where
  pub moved_calls :
      {s : Subject} {p : ℕ} {z : Evaluation} (u : Fresh img text s p z) (q : ℕ) (h : q ≡ length before + p)
      → calls_of (moved img before text u q h) ≡ map (shifted (length before)) (calls_of u)
  unfolding calls_of moved
  moved_calls (ev_empty e) q h = refl
  moved_calls (ev_terminal e) q h = refl
  moved_calls (ev_then_first_fails u a e) q h = moved_calls u q h
  moved_calls (ev_then u a v e) q h = both (length before) u v (moved_calls u q h) (moved_calls v _ _)
  moved_calls (ev_else_first u a e) q h = moved_calls u q h
  moved_calls (ev_else_second u a v e) q h = both (length before) u v (moved_calls u q h) (moved_calls v q h)
  moved_calls (ev_star u e) q h = moved_calls u q h
  moved_calls (ev_last_round u a e) q h = moved_calls u q h
  moved_calls (ev_round u a v e) q h = both (length before) u v (moved_calls u q h) (moved_calls v _ _)
  moved_calls (ev_not u e) q h = moved_calls u q h
  moved_calls (ev_call {r} u e) q h = ap (λ (k : ℕ). record { rule = r; position = k } ∷ []) h
  moved_calls (ev_body b u) q h = moved_calls u q h
  moved_calls (ev_record b) q h = absurd (no_record b)
