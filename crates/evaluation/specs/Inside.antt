-- The evaluations made inside an evaluation: "Nesting: 1 + the largest nesting among the evaluations made inside, 1 if there are none. For
-- a call the body is inside."
use Rattle.std.specs.Prelude.{ℕ, ◌+◌, max, List, [], ◌∷◌}
use Rattle.grammar.specs.declared.Evaluation.{Evaluation}
use Rattle.grammar.specs.Evaluates.{Evaluates, Subject, CallAnswer, a_node, a_pair, rounds_of}
use Rattle.grammar.specs.Evaluates.{ev_empty, ev_terminal, ev_then_first_fails, ev_then, ev_else_first, ev_else_second}
use Rattle.grammar.specs.Evaluates.{ev_star, ev_last_round, ev_round, ev_not, ev_call, ev_body, ev_record}

-- An evaluation made inside another: its position and what it gave.
pub record Inside : Type 0 where
  pub position : ℕ
  pub value : Evaluation

-- The parts of a sequence or a choice that are evaluated, each round of a star, what a not looks at, a called rule's body. A pair's
-- evaluation is its body's; what a record answers has nothing inside.
unfoldable pub inside_of :
    {img text : List ℕ} {answers : ℕ → ℕ → CallAnswer} {s : Subject} {p : ℕ} {z : Evaluation}
    → Evaluates img text answers s p z
    → List Inside
inside_of (ev_empty e) = []
inside_of (ev_terminal e) = []
inside_of {p = p} (ev_then_first_fails {x = x} u m e) = record { position = p; value = x } ∷ []
inside_of {p = p} (ev_then {x = x} {y = y} u m v e) =
    record { position = p; value = x } ∷ record { position = p + x.length; value = y } ∷ []
inside_of {p = p} (ev_else_first {x = x} u m e) = record { position = p; value = x } ∷ []
inside_of {p = p} (ev_else_second {x = x} {y = y} u m v e) = record { position = p; value = x } ∷ record { position = p; value = y } ∷ []
inside_of (ev_star u e) = inside_of u
inside_of {p = p} (ev_last_round {x = x} u m e) = record { position = p; value = x } ∷ []
inside_of {p = p} (ev_round {x = x} u m v e) = record { position = p; value = x } ∷ inside_of v
inside_of {p = p} (ev_not {x = x} u e) = record { position = p; value = x } ∷ []
inside_of {p = p} (ev_call {x = x} u e) = record { position = p; value = x } ∷ []
inside_of (ev_body q u) = inside_of u
inside_of (ev_record q) = []

-- The largest nesting among them, 0 if there are none.
unfoldable pub deepest : List Inside → ℕ
deepest [] = 0
deepest (i ∷ is) = max i.value.nesting (deepest is)

-- How many levels a subject is above what `inside_of` lists. A pair's level is that of its body. The rounds of a star are no evaluation of
-- their own; the star around them is.
abbrev pub level_of : Subject → ℕ
level_of (a_node m) = 1
level_of (a_pair r) = 1
level_of (rounds_of a) = 0
