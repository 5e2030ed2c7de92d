-- The pairs that a reading reaches are those whose body is evaluated in the start pair's evaluation without records.
-- Assumes nothing.
--     reached_in_lem    a reached pair is among them
--     in_reached    each of them is reached
--     reached_is, is_reached    the same by the test
use Prim.Native.Nat.{ℕ}
use mathlib.Core.Path.{◌≡◌, subst}
use mathlib.Core.Bool.{true}
use mathlib.Core.List.{List}
use mathlib.Core.Logic.{⊎_elim}
use Rattle.grammar.specs.declared.Evaluation.{Evaluation}
use Rattle.grammar.specs.Image.{start, body}
use Rattle.grammar.specs.Evaluates.{Fresh, Subject, bodies_only, a_node, a_pair}
use Rattle.grammar.specs.Evaluates.{ev_empty, ev_terminal, ev_then_first_fails, ev_then, ev_else_first, ev_else_second}
use Rattle.grammar.specs.Evaluates.{ev_star, ev_last_round, ev_round, ev_not, ev_call, ev_body, ev_record}
use Rattle.grammar.proofs.Determinism.{no_record}
use Rattle.evaluation.specs.Calls.{Pair, In, here, later, is_in, Reached, start_reached, called, calls_of, bodies_of}
use Rattle.evaluation.proofs.Pairs.{none_in, in_either, in_left, in_right, in_is, is_in_lem}
use Rattle.evaluation.proofs.Bodies.{shallower}
use Rattle.evaluation.proofs.BodiesOnce.{bodies_once}
use Rattle.evaluation.proofs.Range.{all_inside}

module _ {img text : List ℕ} where
  -- Without records a pair's body is evaluated,
  pub own_body : {r p : ℕ} {z : Evaluation} (u : Fresh img text (a_pair r) p z) → In (record { rule = r; position = p }) (bodies_of u)
  unfolding bodies_of
  own_body (ev_body q u) = here
  own_body (ev_record q) = absurd (no_record q)

  -- and so is each called pair's.
  pub called_bodies : {s : Subject} {p : ℕ} {z : Evaluation} {x : Pair} (u : Fresh img text s p z) → In x (calls_of u) → In x (bodies_of u)
  unfolding calls_of bodies_of
  called_bodies (ev_empty e) i = i
  called_bodies (ev_terminal e) i = i
  called_bodies (ev_then_first_fails u m e) i = called_bodies u i
  called_bodies (ev_then u m v e) i =
      ⊎_elim (λ j. in_left (bodies_of v) (called_bodies u j)) (λ j. in_right (bodies_of u) (called_bodies v j))
      (in_either (calls_of u) (calls_of v) i)
  called_bodies (ev_else_first u m e) i = called_bodies u i
  called_bodies (ev_else_second u m v e) i =
      ⊎_elim (λ j. in_left (bodies_of v) (called_bodies u j)) (λ j. in_right (bodies_of u) (called_bodies v j))
      (in_either (calls_of u) (calls_of v) i)
  called_bodies (ev_star u e) i = called_bodies u i
  called_bodies (ev_last_round u m e) i = called_bodies u i
  called_bodies (ev_round u m v e) i =
      ⊎_elim (λ j. in_left (bodies_of v) (called_bodies u j)) (λ j. in_right (bodies_of u) (called_bodies v j))
      (in_either (calls_of u) (calls_of v) i)
  called_bodies (ev_not u e) i = called_bodies u i
  called_bodies (ev_call u e) here = own_body u
  called_bodies (ev_call u e) (later i) = absurd (none_in i)
  called_bodies (ev_body q u) i = later (called_bodies u i)
  called_bodies (ev_record q) i = i

  -- What is called in the body of a pair whose body is evaluated is evaluated too.
  pub bodies_closed :
      {s : Subject} {p : ℕ} {z v : Evaluation} {x y : Pair} (d : Fresh img text s p z)
      → In x (bodies_of d)
      → (u : Fresh img text (a_node (body img x.rule)) x.position v)
      → In y (calls_of u)
      → In y (bodies_of d)
  bodies_closed {y = y} d i u j =
      let a = shallower d i in
      a.inside y (subst (λ (ps : List Pair). In y ps) (bodies_once img text bodies_only u a.inner) (called_bodies u j))

  pub reached_in_lem : {z : Evaluation} {x : Pair} (d : Fresh img text (a_pair (start img)) 0 z) → Reached img text x → In x (bodies_of d)
  reached_in_lem d start_reached = own_body d
  reached_in_lem d (called k u i) = bodies_closed d (reached_in_lem d k) u i

  pub in_reached : {z : Evaluation} {x : Pair} (d : Fresh img text (a_pair (start img)) 0 z) → In x (bodies_of d) → Reached img text x
  in_reached {x = x} d i = all_inside (Reached img text) (λ x z u k y j. called k u j) d start_reached x i

  pub reached_is :
      {z : Evaluation} {x : Pair} (d : Fresh img text (a_pair (start img)) 0 z)
      → Reached img text x
      → is_in x.rule x.position (bodies_of d) ≡ true
  reached_is d k = in_is (reached_in_lem d k)

  pub is_reached :
      {z : Evaluation} (d : Fresh img text (a_pair (start img)) 0 z) (r q : ℕ)
      → is_in r q (bodies_of d) ≡ true
      → Reached img text (record { rule = r; position = q })
  is_reached d r q e = in_reached d (is_in_lem r q (bodies_of d) e)
