-- What the second rounds find is in the well-formed set, and it is all of it once no node joins.
--     formed_only     from nodes that are well formed, only such nodes join
--     formed_all      where no node can join, every well-formed node has joined
-- Assumes nothing.
use Prim.Native.Nat.{ℕ, ◌<◌}
use mathlib.Core.Path.{◌≡◌, refl, sym, ◌∙◌}
use mathlib.Core.Bool.{Bool, true, false, not, ◌||◌, true≢false}
use mathlib.Core.Logic.{⊎_elim}
use mathlib.Core.List.{List}
use lib.ListN.{get_or}
use borrow.Author.Tests.{not-true}
use Rattle.grammar.proofs.Bools.{both, either}
use Rattle.grammar.specs.Image.{nodes, root, node, body}
use Rattle.grammar.specs.declared.node.Node.{Node}
use Rattle.grammar.specs.declared.node.Node.TheVariants.{Empty, Text, Sequence, Choice, Star, NotPredicate, Call, Unlawful}
use Rattle.grammar.specs.Outcomes.{matches_empty, Has}
use Rattle.grammar.specs.WellFormed.{WellFormed, wf_empty, wf_terminal, wf_call, wf_then, wf_else, wf_star, wf_not}
use Rattle.grammar.specs.Questions.{Question4}
use Rattle.grammar.proofs.References.{Refers, refers, root_in_range}
use Rattle.rounds.specs.Sets.{bit}
use Rattle.rounds.specs.Visits.{formed_from}
use Rattle.rounds.specs.Rounds.{Outcomes}

-- The nodes marked so far are well formed.
abbrev pub OnlyFormed : (img : List ℕ) → List Bool → Type 0
OnlyFormed img formed = (n : ℕ) → get_or formed n false ≡ true → WellFormed img (node img n)

-- Node n cannot join: it has, or it does not qualify.
abbrev pub CannotJoin : (img known : List ℕ) → List Bool → ℕ → Type 0
CannotJoin img known formed n = formed_from img known formed (node img n) ≡ true → get_or formed n false ≡ true

-- A test that is not so: what it tests does not hold.
lacks : (b : Bool) → not b ≡ true → b ≡ true → ⊥
lacks b e f = true≢false (sym f ∙ not-true b e)

module _ (img known : List ℕ) (formed : List Bool) (sets : Outcomes img known) (only : OnlyFormed img formed) where
  -- The references stay in range, so that the sets tell all outcomes of the child.
  pub formed_only : (n : Node) → Refers img n → formed_from img known formed n ≡ true → WellFormed img n
  unfolding formed_from body
  formed_only Empty r h = wf_empty
  formed_only (Text t) r h = wf_terminal
  formed_only (Sequence a b) r h =
      let v = both _ _ h in
      wf_then (only a v.0)
      (λ has. ⊎_elim
      (λ w. absurd (lacks _ w (sets.all a matches_empty r.0 has)))
      (λ w. only b w)
      (either _ _ v.1))
  formed_only (Choice a b) r h = let v = both _ _ h in wf_else (only a v.0) (only b v.1)
  formed_only (Star a) r h =
      let v = both _ _ h in
      wf_star (only a v.0) (λ has. lacks _ v.1 (sets.all a matches_empty r has))
  formed_only (NotPredicate a) r h = wf_not (only a h)
  formed_only (Call rule) r h = wf_call (only (root img rule) h)
  formed_only Unlawful r h = absurd (true≢false (sym h))

module _
    (img known : List ℕ)
    (formed : List Bool)
    (words : Question4 img)
    (sets : Outcomes img known)
    (closed : (n : ℕ) → n < nodes img → CannotJoin img known formed n)
  where
    then-all :
        (a b : ℕ) → get_or formed a false ≡ true → (Has img (node img a) matches_empty → get_or formed b false ≡ true)
        → formed_from img known formed (Sequence a b) ≡ true
    unfolding formed_from
    then-all a b p q = rw p (go (bit matches_empty (get_or known a 0)) refl)
      where
        go : (z : Bool) → bit matches_empty (get_or known a 0) ≡ z → (not z || get_or formed b false) ≡ true
        go true e = q (sets.only a matches_empty e)
        go false e = refl

    star-all :
        (a : ℕ) → get_or formed a false ≡ true → (Has img (node img a) matches_empty → ⊥) → formed_from img known formed (Star a) ≡ true
    unfolding formed_from
    star-all a p n = rw p (go (bit matches_empty (get_or known a 0)) refl)
      where
        go : (z : Bool) → bit matches_empty (get_or known a 0) ≡ z → not z ≡ true
        go true e = absurd (n (sets.only a matches_empty e))
        go false e = refl

    pub formed_all : {n : Node} → WellFormed img n → Refers img n → formed_from img known formed n ≡ true
    unfolding formed_from body
    formed_all wf_empty r = refl
    formed_all wf_terminal r = refl
    formed_all (wf_call {r = rule} w) l =
        let k = root_in_range img words rule l in
        closed (root img rule) k (formed_all w (refers img words (root img rule) k))
    formed_all (wf_then {a} {b} w v) r =
        then-all a b
        (closed a r.0 (formed_all w (refers img words a r.0)))
        (λ has. closed b r.1 (formed_all (v has) (refers img words b r.1)))
    formed_all (wf_else {a} {b} w v) r =
        let p = closed a r.0 (formed_all w (refers img words a r.0)) in
        let q = closed b r.1 (formed_all v (refers img words b r.1)) in
        simp (p, q)
    formed_all (wf_star {a} w n) r = star-all a (closed a r (formed_all w (refers img words a r))) n
    formed_all (wf_not {a} w) r = closed a r (formed_all w (refers img words a r))
