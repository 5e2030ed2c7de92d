-- In an image whose words are lawful, the pairs that are called in an evaluation at a position of the text, and those whose body is
-- evaluated in it, have a rule of the image and a position of the text; where the records that answer calls have the shape of
-- evaluations. And what holds of the pairs called and passes on to the pairs called in a body holds of all whose body is evaluated.
-- Assumes nothing.
use Prim.Native.Nat.{ℕ, ◌≤◌, ◌<◌}
use mathlib.Core.Path.{◌≡◌}
use mathlib.Core.List.{List}
use mathlib.Core.Logic.{⊎_elim}
use lib.ListN.{length}
use Rattle.grammar.specs.declared.Evaluation.{Evaluation}
use Rattle.grammar.specs.Image.{nodes, rules, root, body}
use Rattle.grammar.specs.Questions.{Question4}
use Rattle.grammar.specs.Evaluates.{Evaluates, Subject, CallAnswer, by_record, a_node, a_pair, rounds_of}
use Rattle.grammar.specs.Evaluates.{ev_empty, ev_terminal, ev_then_first_fails, ev_then, ev_else_first, ev_else_second}
use Rattle.grammar.specs.Evaluates.{ev_star, ev_last_round, ev_round, ev_not, ev_call, ev_body, ev_record}
use Rattle.grammar.proofs.References.{Refers, refers, root_in_range}
use Rattle.evaluation.specs.Within.{Within}
use Rattle.evaluation.specs.Calls.{Pair, In, here, later, calls_of, bodies_of}
use Rattle.evaluation.proofs.Shape.{within}
use Rattle.evaluation.proofs.Pairs.{none_in, in_either, in_left, in_right}

-- The subject refers only to nodes and rules of the image.
abbrev pub InImage : List ℕ → Subject → Type 0
InImage img (a_node m) = Refers img m
InImage img (a_pair r) = r < rules img
InImage img (rounds_of a) = a < nodes img

-- A pair of the image and the text.
pub record PairOf (img text : List ℕ) (x : Pair) : Type 0 where
  pub rule_in : x.rule < rules img
  pub position_in : x.position ≤ length text

module _ {img text : List ℕ} {answers : ℕ → ℕ → CallAnswer} (P : Pair → Type 0)
    (passes :
    (x : Pair) (z : Evaluation) (u : Evaluates img text answers (a_node (body img x.rule)) x.position z)
    → P x → (y : Pair) → In y (calls_of u) → P y)
  where
    -- Of a pair itself, or of the pairs that are called in what is not a pair.
    abbrev Starts : Subject → ℕ → List Pair → Type 0
    Starts (a_node m) p calls = (y : Pair) → In y calls → P y
    Starts (a_pair r) p calls = P (record { rule = r; position = p })
    Starts (rounds_of a) p calls = (y : Pair) → In y calls → P y

    pub all_inside :
        {s : Subject} {p : ℕ} {z : Evaluation} (u : Evaluates img text answers s p z) → Starts s p (calls_of u)
        → (y : Pair) → In y (bodies_of u) → P y
    unfolding calls_of bodies_of
    all_inside (ev_empty e) s y i = absurd (none_in i)
    all_inside (ev_terminal e) s y i = absurd (none_in i)
    all_inside (ev_then_first_fails u m e) s y i = all_inside u s y i
    all_inside (ev_then u m v e) s y i =
        ⊎_elim (all_inside u (λ x j. s x (in_left (calls_of v) j)) y) (all_inside v (λ x j. s x (in_right (calls_of u) j)) y)
        (in_either (bodies_of u) (bodies_of v) i)
    all_inside (ev_else_first u m e) s y i = all_inside u s y i
    all_inside (ev_else_second u m v e) s y i =
        ⊎_elim (all_inside u (λ x j. s x (in_left (calls_of v) j)) y) (all_inside v (λ x j. s x (in_right (calls_of u) j)) y)
        (in_either (bodies_of u) (bodies_of v) i)
    all_inside (ev_star u e) s y i = all_inside u s y i
    all_inside (ev_last_round u m e) s y i = all_inside u s y i
    all_inside (ev_round u m v e) s y i =
        ⊎_elim (all_inside u (λ x j. s x (in_left (calls_of v) j)) y) (all_inside v (λ x j. s x (in_right (calls_of u) j)) y)
        (in_either (bodies_of u) (bodies_of v) i)
    all_inside (ev_not u e) s y i = all_inside u s y i
    all_inside {p = p} (ev_call {r} u e) s y i = all_inside u (s (record { rule = r; position = p }) here) y i
    all_inside (ev_body q u) s y here = s
    all_inside {p = p} {z = z} (ev_body {r} q u) s y (later i) = all_inside u (passes (record { rule = r; position = p }) z u s) y i
    all_inside (ev_record q) s y i = absurd (none_in i)

module _ (img text : List ℕ) (answers : ℕ → ℕ → CallAnswer) (words : Question4 img)
    (records : (r p : ℕ) (x : Evaluation) → p ≤ length text → answers r p ≡ by_record x → Within (length text) p x)
  where
    pub calls_in_range :
        {s : Subject} {p : ℕ} {z : Evaluation} {x : Pair} (u : Evaluates img text answers s p z) → InImage img s → p ≤ length text
        → In x (calls_of u) → PairOf img text x
    unfolding calls_of body
    calls_in_range (ev_empty e) r h i = absurd (none_in i)
    calls_in_range (ev_terminal e) r h i = absurd (none_in i)
    calls_in_range (ev_then_first_fails {a} u m e) r h i = calls_in_range u (refers img words a r.0) h i
    calls_in_range (ev_then {a} {b} u m v e) r h i =
        ⊎_elim (calls_in_range u (refers img words a r.0) h)
        (calls_in_range v (refers img words b r.1) (within img text answers records u h).in_text)
        (in_either (calls_of u) (calls_of v) i)
    calls_in_range (ev_else_first {a} u m e) r h i = calls_in_range u (refers img words a r.0) h i
    calls_in_range (ev_else_second {a} {b} u m v e) r h i =
        ⊎_elim (calls_in_range u (refers img words a r.0) h) (calls_in_range v (refers img words b r.1) h)
        (in_either (calls_of u) (calls_of v) i)
    calls_in_range (ev_star u e) r h i = calls_in_range u r h i
    calls_in_range (ev_last_round {a} u m e) r h i = calls_in_range u (refers img words a r) h i
    calls_in_range (ev_round {a} u m v e) r h i =
        ⊎_elim (calls_in_range u (refers img words a r) h)
        (calls_in_range v r (within img text answers records u h).in_text)
        (in_either (calls_of u) (calls_of v) i)
    calls_in_range (ev_not {a} u e) r h i = calls_in_range u (refers img words a r) h i
    calls_in_range (ev_call u e) r h here = record { rule_in = r; position_in = h }
    calls_in_range (ev_call u e) r h (later i) = absurd (none_in i)
    calls_in_range (ev_body {r} q u) l h i = calls_in_range u (refers img words (root img r) (root_in_range img words r l)) h i
    calls_in_range (ev_record q) r h i = absurd (none_in i)

    -- The pairs called in the body of a pair.
    pub called_in_range :
        (x : Pair) (z : Evaluation) (u : Evaluates img text answers (a_node (body img x.rule)) x.position z)
        → PairOf img text x → (y : Pair) → In y (calls_of u) → PairOf img text y
    unfolding body
    called_in_range x z u k y i =
        calls_in_range u (refers img words (root img x.rule) (root_in_range img words x.rule k.rule_in)) k.position_in i

    pub bodies_in_range :
        {r p : ℕ} {z : Evaluation} (u : Evaluates img text answers (a_pair r) p z) → r < rules img → p ≤ length text
        → (y : Pair) → In y (bodies_of u) → PairOf img text y
    bodies_in_range u l h y i = all_inside (PairOf img text) called_in_range u (record { rule_in = l; position_in = h }) y i
