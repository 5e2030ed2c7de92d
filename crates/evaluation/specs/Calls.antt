-- The pairs that an evaluation calls, and the pairs that a reading reaches.
use Rattle.std.specs.Prelude.{ℕ, Bool, false, ◌&&◌, ◌||◌, List, [], ◌∷◌, ◌++◌, eqb}
use Rattle.grammar.specs.declared.Evaluation.{Evaluation}
use Rattle.grammar.specs.Image.{start, body}
use Rattle.grammar.specs.Evaluates.{Evaluates, Fresh, Subject, CallAnswer, a_node}
use Rattle.grammar.specs.Evaluates.{ev_empty, ev_terminal, ev_then_first_fails, ev_then, ev_else_first, ev_else_second}
use Rattle.grammar.specs.Evaluates.{ev_star, ev_last_round, ev_round, ev_not, ev_call, ev_body, ev_record}

-- "A pair is (rule, position)".
pub record Pair : Type 0 where
  pub rule : ℕ
  pub position : ℕ

-- The pairs called in an evaluation, in order: those of failed parts, of failing rounds and under a not too, and not those called in
-- turn while a called pair's own body is evaluated.
unfoldable pub calls_of :
    {img text : List ℕ} {answers : ℕ → ℕ → CallAnswer} {s : Subject} {p : ℕ} {z : Evaluation}
    → Evaluates img text answers s p z
    → List Pair
calls_of (ev_empty e) = []
calls_of (ev_terminal e) = []
calls_of (ev_then_first_fails u m e) = calls_of u
calls_of (ev_then u m v e) = calls_of u ++ calls_of v
calls_of (ev_else_first u m e) = calls_of u
calls_of (ev_else_second u m v e) = calls_of u ++ calls_of v
calls_of (ev_star u e) = calls_of u
calls_of (ev_last_round u m e) = calls_of u
calls_of (ev_round u m v e) = calls_of u ++ calls_of v
calls_of (ev_not u e) = calls_of u
calls_of {p = p} (ev_call {r} u e) = record { rule = r; position = p } ∷ []
calls_of (ev_body q u) = calls_of u
calls_of (ev_record q) = []

-- A pair is in a list.
pub data In (x : Pair) : List Pair → Type 0 where
  here : {xs : List Pair} → In x (x ∷ xs)
  later : {y : Pair} {xs : List Pair} → In x xs → In x (y ∷ xs)

-- Whether it is.
unfoldable pub is_in : (rule position : ℕ) → List Pair → Bool
is_in r q [] = false
is_in r q (x ∷ xs) = eqb x.rule r && eqb x.position q || is_in r q xs

-- "(start, 0) is reached; so is each pair called while a reached pair's body is evaluated."
pub data Reached (img text : List ℕ) : Pair → Type 0 where
  start_reached : Reached img text (record { rule = start img; position = 0 })
  called :
      {x y : Pair} {z : Evaluation}
      → Reached img text x
      → (u : Fresh img text (a_node (body img x.rule)) x.position z)
      → In y (calls_of u)
      → Reached img text y

-- The pairs whose body is evaluated in an evaluation, in order and as often as it is: called pairs that are answered by their body,
-- those called in turn included, and not those that a record answers.
unfoldable pub bodies_of :
    {img text : List ℕ} {answers : ℕ → ℕ → CallAnswer} {s : Subject} {p : ℕ} {z : Evaluation}
    → Evaluates img text answers s p z
    → List Pair
bodies_of (ev_empty e) = []
bodies_of (ev_terminal e) = []
bodies_of (ev_then_first_fails u m e) = bodies_of u
bodies_of (ev_then u m v e) = bodies_of u ++ bodies_of v
bodies_of (ev_else_first u m e) = bodies_of u
bodies_of (ev_else_second u m v e) = bodies_of u ++ bodies_of v
bodies_of (ev_star u e) = bodies_of u
bodies_of (ev_last_round u m e) = bodies_of u
bodies_of (ev_round u m v e) = bodies_of u ++ bodies_of v
bodies_of (ev_not u e) = bodies_of u
bodies_of (ev_call u e) = bodies_of u
bodies_of {p = p} (ev_body {r} q u) = record { rule = r; position = p } ∷ bodies_of u
bodies_of (ev_record q) = []
