-- Every accepted image and text has an evaluation: for every node and position, by Ford's rules. Assumes nothing.
--     total        an evaluation of every node at every position of the text
--     total_pair   and of every pair
use Prim.Native.Nat.{ℕ, zero, suc, ◌+◌, ◌-◌, ◌≤◌, ◌<◌}
use native.Mathlib.Omega.{arith}
use mathlib.Core.Path.{◌≡◌, refl, subst}
use mathlib.Core.Bool.{Bool, true, false}
use mathlib.Core.List.{List}
use lib.ListN.{length}
use Rattle.grammar.specs.declared.Evaluation.{Evaluation}
use Rattle.grammar.specs.declared.node.Node.{Node}
use Rattle.grammar.specs.declared.node.Node.TheVariants.{Sequence, Choice, Star}
use Rattle.grammar.specs.Image.{node, nodes, rules, root, body}
use Rattle.grammar.specs.Outcomes.{Has, matches_empty}
use Rattle.grammar.specs.WellFormed.{WellFormed, wf_empty, wf_terminal, wf_call, wf_then, wf_else, wf_star, wf_not}
use Rattle.grammar.specs.Questions.{Accepted}
use Rattle.grammar.specs.Terminal.{terminal_at}
use Rattle.grammar.specs.Evaluates.{Fresh, Subject, a_node, a_pair, rounds_of}
use Rattle.grammar.specs.Evaluates.{empty_here, first_failed, in_sequence, taken_over, second_choice, last_round, round_then, negated}
use Rattle.grammar.specs.Evaluates.{ev_empty, ev_terminal, ev_then_first_fails, ev_then, ev_else_first, ev_else_second}
use Rattle.grammar.specs.Evaluates.{ev_star, ev_last_round, ev_round, ev_not, ev_call, ev_body}
use Rattle.grammar.proofs.References.{Refers, refers, root_in_range}
use Rattle.evaluation.proofs.Described.{shown}
use Rattle.evaluation.proofs.Plain.{fresh_within, fresh_described}

-- An evaluation of s at p.
pub record Exists (img text : List ℕ) (s : Subject) (p : ℕ) : Type 0 where
  pub value : Evaluation
  pub evaluated : Fresh img text s p value

-- A matched evaluation of length 0 shows outcome 0.
shows_0 :
    {img text : List ℕ} {n : Node} {p : ℕ} {x : Evaluation} → Fresh img text (a_node n) p x → x.matched ≡ true → x.length ≡ 0
    → Has img n matches_empty
shows_0 {img} {text} {n} {p} {x} u m l =
    subst (λ (k : ℕ). Has img n (shown true k)) l (subst (λ (b : Bool). Has img n (shown b x.length)) m (fresh_described u))

-- The rounds of a star that has an evaluation.
rounds_in : {img text : List ℕ} {a p : ℕ} {z : Evaluation} → Fresh img text (a_node (Star a)) p z → Exists img text (rounds_of a) p
rounds_in (ev_star {x = x} u e) = record { value = x; evaluated = u }

module _ {img text : List ℕ} where
  -- A then B, where B has an evaluation wherever A can leave it.
  then_exists :
      {a b p : ℕ}
      → p ≤ length text
      → (first : Exists img text (a_node (node img a)) p)
      → ((q : ℕ) → q ≤ length text → p < q → Exists img text (a_node (node img b)) q)
      → (Has img (node img a) matches_empty → Exists img text (a_node (node img b)) p)
      → Exists img text (a_node (Sequence a b)) p
  then_exists {a} {b} {p} h first later here = go first.value.matched refl first.value.length refl
    where
      go : (m : Bool) → first.value.matched ≡ m → (l : ℕ) → first.value.length ≡ l → Exists img text (a_node (Sequence a b)) p
      go false e l k = record { value = first_failed first.value; evaluated = ev_then_first_fails first.evaluated e refl }
      go true e zero k =
          let second = here (shows_0 first.evaluated e k) in
          let at : p + first.value.length ≡ p = omega arith in
          let moved : Fresh img text (a_node (node img b)) (p + first.value.length) second.value = rw at second.evaluated in
          record { value = in_sequence first.value second.value; evaluated = ev_then first.evaluated e moved refl }
      go true e (suc l) k =
          let w = fresh_within first.evaluated h in
          let second = later (p + first.value.length) w.in_text (omega arith) in
          record {
            value = in_sequence first.value second.value;
            evaluated = ev_then first.evaluated e second.evaluated refl;
          }

  else_exists :
      {a b p : ℕ}
      → Exists img text (a_node (node img a)) p
      → Exists img text (a_node (node img b)) p
      → Exists img text (a_node (Choice a b)) p
  else_exists {a} {b} {p} first second = go first.value.matched refl
    where
      go : (m : Bool) → first.value.matched ≡ m → Exists img text (a_node (Choice a b)) p
      go true e = record { value = taken_over first.value; evaluated = ev_else_first first.evaluated e refl }
      go false e =
          record {
            value = second_choice first.value second.value;
            evaluated = ev_else_second first.evaluated e second.evaluated refl;
          }

  -- A star whose body lacks outcome 0, where its later rounds have an evaluation.
  star_exists :
      {a p : ℕ}
      → p ≤ length text
      → (Has img (node img a) matches_empty → ⊥)
      → Exists img text (a_node (node img a)) p
      → ((q : ℕ) → q ≤ length text → p < q → Exists img text (a_node (Star a)) q)
      → Exists img text (a_node (Star a)) p
  star_exists {a} {p} h lacks round later = go round.value.matched refl round.value.length refl
    where
      go : (m : Bool) → round.value.matched ≡ m → (l : ℕ) → round.value.length ≡ l → Exists img text (a_node (Star a)) p
      go false e l k =
          record {
            value = taken_over (last_round round.value);
            evaluated = ev_star (ev_last_round round.evaluated e refl) refl;
          }
      go true e zero k = absurd (lacks (shows_0 round.evaluated e k))
      go true e (suc l) k =
          let w = fresh_within round.evaluated h in
          let star-later = later (p + round.value.length) w.in_text (omega arith) in
          let rest = rounds_in star-later.evaluated in
          record {
            value = taken_over (round_then round.value rest.value);
            evaluated = ev_star (ev_round round.evaluated e rest.evaluated refl) refl;
          }

module _ (img text : List ℕ) (accepted : Accepted img) where
  -- Every well-formed node has an evaluation at every position with fewer than m bytes after it.
  abbrev Before : ℕ → Type 0
  Before m =
      (n : Node) → WellFormed img n → Refers img n → (p : ℕ) → p ≤ length text → length text - p < m → Exists img text (a_node n) p

  -- One more byte, by the derivation that the node is well formed.
  further :
      (m : ℕ) → Before m → {n : Node} → WellFormed img n → Refers img n → (p : ℕ) → p ≤ length text → length text - p < m + 1
      → Exists img text (a_node n) p
  unfolding body
  further m before wf_empty r p h l = record { value = empty_here; evaluated = ev_empty refl }
  further m before (wf_terminal {t}) r p h l = record { value = terminal_at t text p; evaluated = ev_terminal refl }
  further m before (wf_call {r = rule} w) k p h l =
      let words = accepted.lawful.words in
      let inner = further m before w (refers img words (root img rule) (root_in_range img words rule k)) p h l in
      record { value = taken_over inner.value; evaluated = ev_call (ev_body refl inner.evaluated) refl }
  further m before (wf_then {a} {b} w v) r p h l =
      let words = accepted.lawful.words in
      then_exists h
      (further m before w (refers img words a r.0) p h l)
      (λ q k d. before (node img b) (accepted.well_formed.every_node b r.1) (refers img words b r.1) q k (omega arith))
      (λ has. further m before (v has) (refers img words b r.1) p h l)
  further m before (wf_else {a} {b} w v) r p h l =
      let words = accepted.lawful.words in
      else_exists (further m before w (refers img words a r.0) p h l) (further m before v (refers img words b r.1) p h l)
  further m before (wf_star {a} w lacks) r p h l =
      let words = accepted.lawful.words in
      star_exists h lacks
      (further m before w (refers img words a r) p h l)
      (λ q k d. before (Star a) (wf_star w lacks) r q k (omega arith))
  further m before (wf_not {a} w) r p h l =
      let words = accepted.lawful.words in
      let inner = further m before w (refers img words a r) p h l in
      record { value = negated inner.value; evaluated = ev_not inner.evaluated refl }

  before : (m : ℕ) → Before m
  before zero n w r p h l = absurd (omega arith)
  before (suc m) n w r p h l = further m (before m) w r p h (omega arith)

  pub total : (i : ℕ) → i < nodes img → (p : ℕ) → p ≤ length text → Exists img text (a_node (node img i)) p
  total i l p h =
      before (length text - p + 1) (node img i) (accepted.well_formed.every_node i l) (refers img accepted.lawful.words i l) p h
      (omega arith)

  pub total_pair : (r : ℕ) → r < rules img → (p : ℕ) → p ≤ length text → Exists img text (a_pair r) p
  unfolding body
  total_pair r l p h =
      let inner = total (root img r) (root_in_range img accepted.lawful.words r l) p h in
      record { value = inner.value; evaluated = ev_body refl inner.evaluated }
