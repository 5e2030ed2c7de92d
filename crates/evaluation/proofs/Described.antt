-- Outcome sets describe evaluations: an evaluation that matches nothing long shows outcome 0, one that consumes outcome 1, a
-- failure outcome f; where the records that answer calls are described so too. Assumes nothing.
--     described     the outcome of an evaluation of a node is in the node's set
use Prim.Native.Nat.{ℕ, zero, suc, ◌+◌, ◌≤◌}
use native.Mathlib.Omega.{arith}
use mathlib.Core.Path.{◌≡◌, refl, sym, subst}
use mathlib.Core.Bool.{Bool, true, false, not}
use mathlib.Core.List.{List}
use Rattle.grammar.specs.declared.Evaluation.{Evaluation}
use Rattle.grammar.specs.declared.node.Node.{Node}
use Rattle.grammar.specs.declared.node.Terminal.{Terminal}
use Rattle.grammar.specs.declared.node.Node.TheVariants.{Text, Sequence, Choice, Star, NotPredicate}
use Rattle.grammar.specs.Image.{node, body}
use Rattle.grammar.specs.Outcomes.{Outcome, matches_empty, consumes, fails, Has, empty_0, terminal_1, terminal_f, call_body}
use Rattle.grammar.specs.Outcomes.{then_00, then_10, then_11, then_01, then_f, then_0f, then_1f, else_0, else_1, else_second}
use Rattle.grammar.specs.Outcomes.{star_1, star_0, not_f0, not_f1, not_0}
use Rattle.grammar.specs.Evaluates.{Evaluates, Subject, CallAnswer, by_record, length_if, a_node, a_pair, rounds_of}
use Rattle.grammar.specs.Evaluates.{ev_empty, ev_terminal, ev_then_first_fails, ev_then, ev_else_first, ev_else_second}
use Rattle.grammar.specs.Evaluates.{ev_star, ev_last_round, ev_round, ev_not, ev_call, ev_body, ev_record}
use Rattle.grammar.specs.Terminal.{terminal_at}
use Rattle.grammar.proofs.Terminals.{match_consumes}

-- The outcome that an evaluation shows, from whether it matched and its length.
abbrev pub shown : Bool → ℕ → Outcome
shown false l = fails
shown true zero = matches_empty
shown true (suc l) = consumes

abbrev pub outcome : Evaluation → Outcome
outcome x = shown x.matched x.length

-- What the rounds of a star over a show: the last round failed, and if they consumed a round did.
pub record RoundsShow (img : List ℕ) (a : ℕ) (x : Evaluation) : Type 0 where
  pub matched_all : x.matched ≡ true
  pub ends : Has img (node img a) fails
  pub moves : (l : ℕ) → x.length ≡ suc l → Has img (node img a) consumes

abbrev Shows : (img : List ℕ) → Subject → Evaluation → Type 0
Shows img (a_node n) x = Has img n (outcome x)
Shows img (a_pair r) x = Has img (body img r) (outcome x)
Shows img (rounds_of a) x = RoundsShow img a x

-- A match of length 1 or more shows outcome 1, one of length 0 outcome 0.
shows_1 : (l : ℕ) → 1 ≤ l → shown true l ≡ consumes
shows_1 zero h = absurd (omega arith)
shows_1 (suc l) h = refl

-- A sequence whose first part matched: by the outcomes of both parts.
then_shows :
    (img : List ℕ) (a b : ℕ) (m : Bool) (l k : ℕ)
    → Has img (node img a) (shown true l)
    → Has img (node img b) (shown m k)
    → Has img (Sequence a b) (shown m (length_if m (l + k)))
then_shows img a b false zero k ha hb = then_0f ha hb
then_shows img a b false (suc l) k ha hb = then_1f ha hb
then_shows img a b true zero zero ha hb = then_00 ha hb
then_shows img a b true zero (suc k) ha hb =
    subst (Has img (Sequence a b)) (sym (shows_1 (zero + suc k) (omega arith))) (then_01 ha hb)
then_shows img a b true (suc l) zero ha hb =
    subst (Has img (Sequence a b)) (sym (shows_1 (suc l + zero) (omega arith))) (then_10 ha hb)
then_shows img a b true (suc l) (suc k) ha hb =
    subst (Has img (Sequence a b)) (sym (shows_1 (suc l + suc k) (omega arith))) (then_11 ha hb)

first_shows : (img : List ℕ) (a b : ℕ) (l : ℕ) → Has img (node img a) (shown true l) → Has img (Choice a b) (shown true l)
first_shows img a b zero h = else_0 h
first_shows img a b (suc l) h = else_1 h

not_shows : (img : List ℕ) (a : ℕ) (m : Bool) (l : ℕ) → Has img (node img a) (shown m l) → Has img (NotPredicate a) (shown (not m) 0)
not_shows img a false l h = not_0 h
not_shows img a true zero h = not_f0 h
not_shows img a true (suc l) h = not_f1 h

star_shows :
    (img : List ℕ) (a l : ℕ) → Has img (node img a) fails → ((k : ℕ) → l ≡ suc k → Has img (node img a) consumes)
    → Has img (Star a) (shown true l)
star_shows img a zero f c = star_0 f
star_shows img a (suc l) f c = star_1 (c l refl)

terminal_shows : (img : List ℕ) (t : Terminal) (m : Bool) (l : ℕ) → (m ≡ true → 1 ≤ l) → Has img (Text t) (shown m l)
terminal_shows img t false l h = terminal_f
terminal_shows img t true l h = subst (Has img (Text t)) (sym (shows_1 l (h refl))) terminal_1

-- A round that consumed shows outcome 1; else a later one did.
round_moves :
    (img : List ℕ) (a l k : ℕ)
    → Has img (node img a) (shown true l)
    → ((j : ℕ) → k ≡ suc j → Has img (node img a) consumes)
    → (j : ℕ) → l + k ≡ suc j → Has img (node img a) consumes
round_moves img a (suc l) k h c j e = h
round_moves img a zero k h c j e = c j (omega arith)

module _ (img text : List ℕ) (answers : ℕ → ℕ → CallAnswer)
    (records : (r p : ℕ) (x : Evaluation) → answers r p ≡ by_record x → Has img (body img r) (outcome x))
  where
    shows : {s : Subject} {p : ℕ} {z : Evaluation} → Evaluates img text answers s p z → Shows img s z
    shows (ev_empty e) = rw e empty_0
    shows {p = p} (ev_terminal {t} e) =
        rw e (terminal_shows img t (terminal_at t text p).matched (terminal_at t text p).length (match_consumes t text p))
    shows (ev_then_first_fails {x = x} a m e) = rw e (then_f (rw m at (shows a)))
    shows (ev_then {a} {b} {x = x} {y = y} u m v e) = rw e (then_shows img a b y.matched x.length y.length (rw m at (shows u)) (shows v))
    shows (ev_else_first {a} {b} {x = x} u m e) =
        rw e (subst (λ (k : Bool). Has img (Choice a b) (shown k x.length)) (sym m) (first_shows img a b x.length (rw m at (shows u))))
    shows (ev_else_second {a} {b} {x = x} u m v e) = rw e (else_second (rw m at (shows u)) (shows v))
    shows (ev_star {a} {x = x} u e) =
        let r = shows u in
        rw e (subst (λ (k : Bool). Has img (Star a) (shown k x.length)) (sym r.matched_all) (star_shows img a x.length r.ends r.moves))
    shows (ev_last_round {a} u m e) =
        rw e (record { matched_all = refl; ends = rw m at (shows u); moves = λ l h. absurd (omega arith) })
    shows (ev_round {a} {x = x} {y = y} u m v e) =
        let r = shows v in
        rw e
        (record {
          matched_all = refl;
          ends = r.ends;
          moves = round_moves img a x.length y.length (rw m at (shows u)) r.moves;
        })
    shows (ev_not {a} {x = x} u e) = rw e (not_shows img a x.matched x.length (shows u))
    shows (ev_call u e) = rw e (call_body (shows u))
    shows (ev_body q u) = shows u
    shows {p = p} {z = z} (ev_record {r} q) = records r p z q

    pub described : {n : Node} {p : ℕ} {z : Evaluation} → Evaluates img text answers (a_node n) p z → Has img n (outcome z)
    described u = shows u
