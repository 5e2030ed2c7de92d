-- What a node gathers from the sets known so far is right, and it is all once no node gathers more.
--     gathered_only     from sets with nothing wrong a node gathers nothing wrong
--     gathered_all      from sets to which no node can add anything, a node gathers all its outcomes
-- Assumes nothing.
use Prim.Native.Nat.{ℕ, ◌<◌}
use mathlib.Core.Path.{◌≡◌, refl, sym, ◌∙◌}
use mathlib.Core.Bool.{true, true≢false, or-true}
use mathlib.Core.Logic.{⊎_elim}
use mathlib.Core.List.{List}
use lib.ListN.{get_or}
use Rattle.grammar.proofs.Bools.{both, either}
use Rattle.grammar.specs.Image.{nodes, root, node, body}
use Rattle.grammar.specs.declared.node.Node.{Node}
use Rattle.grammar.specs.declared.node.Node.TheVariants.{Empty, Text, Sequence, Choice, Star, NotPredicate, Call, Unlawful}
use Rattle.grammar.specs.Outcomes.{Outcome, matches_empty, consumes, fails, Has, empty_0, terminal_1, terminal_f, call_body}
use Rattle.grammar.specs.Outcomes.{then_00, then_10, then_11, then_01, then_f, then_0f, then_1f, else_0, else_1, else_second}
use Rattle.grammar.specs.Outcomes.{star_1, star_0, not_f0, not_f1, not_0}
use Rattle.grammar.specs.Questions.{Question4}
use Rattle.grammar.proofs.References.{Refers, refers, root_in_range}
use Rattle.rounds.specs.Sets.{bit, then_set, else_set, star_set, not_set}
use Rattle.rounds.specs.Visits.{gathered}
use Rattle.rounds.proofs.Bits.{bit-pack}

-- The sets tell nothing wrong.
abbrev pub Only : (img known : List ℕ) → Type 0
Only img known = (n : ℕ) (o : Outcome) → bit o (get_or known n 0) ≡ true → Has img (node img n) o

-- Node n can add nothing to its set.
abbrev pub Closed : (img known : List ℕ) → ℕ → Type 0
Closed img known n = (o : Outcome) → bit o (gathered img known (node img n)) ≡ true → bit o (get_or known n 0) ≡ true

module _ (img known : List ℕ) (only : Only img known) where
  then_only : (a b : ℕ) (o : Outcome) → bit o (then_set (get_or known a 0) (get_or known b 0)) ≡ true → Has img (Sequence a b) o
  unfolding then_set
  then_only a b matches_empty h =
      let w = both _ _ (sym (bit-pack matches_empty _ _ _) ∙ h) in
      then_00 (only a matches_empty w.0) (only b matches_empty w.1)
  then_only a b consumes h =
      ⊎_elim
      (λ w. let v = both _ _ w in ⊎_elim
      (λ u. then_10 (only a consumes v.0) (only b matches_empty u))
      (λ u. then_11 (only a consumes v.0) (only b consumes u))
      (either _ _ v.1))
      (λ w. let v = both _ _ w in then_01 (only a matches_empty v.0) (only b consumes v.1))
      (either _ _ (sym (bit-pack consumes _ _ _) ∙ h))
  then_only a b fails h =
      ⊎_elim
      (λ w. then_f (only a fails w))
      (λ w. let v = both _ _ w in ⊎_elim
      (λ u. then_0f (only a matches_empty u) (only b fails v.1))
      (λ u. then_1f (only a consumes u) (only b fails v.1))
      (either _ _ v.0))
      (either _ _ (sym (bit-pack fails _ _ _) ∙ h))

  else_only : (a b : ℕ) (o : Outcome) → bit o (else_set (get_or known a 0) (get_or known b 0)) ≡ true → Has img (Choice a b) o
  unfolding else_set
  else_only a b matches_empty h =
      ⊎_elim
      (λ w. else_0 (only a matches_empty w))
      (λ w. let v = both _ _ w in else_second (only a fails v.0) (only b matches_empty v.1))
      (either _ _ (sym (bit-pack matches_empty _ _ _) ∙ h))
  else_only a b consumes h =
      ⊎_elim
      (λ w. else_1 (only a consumes w))
      (λ w. let v = both _ _ w in else_second (only a fails v.0) (only b consumes v.1))
      (either _ _ (sym (bit-pack consumes _ _ _) ∙ h))
  else_only a b fails h =
      let v = both _ _ (sym (bit-pack fails _ _ _) ∙ h) in else_second (only a fails v.0) (only b fails v.1)

  star_only : (a : ℕ) (o : Outcome) → bit o (star_set (get_or known a 0)) ≡ true → Has img (Star a) o
  unfolding star_set
  star_only a matches_empty h = star_0 (only a fails (sym (bit-pack matches_empty _ _ _) ∙ h))
  star_only a consumes h = star_1 (only a consumes (sym (bit-pack consumes _ _ _) ∙ h))
  star_only a fails h = absurd (true≢false (sym h ∙ bit-pack fails _ _ _))

  not_only : (a : ℕ) (o : Outcome) → bit o (not_set (get_or known a 0)) ≡ true → Has img (NotPredicate a) o
  unfolding not_set
  not_only a matches_empty h = not_0 (only a fails (sym (bit-pack matches_empty _ _ _) ∙ h))
  not_only a consumes h = absurd (true≢false (sym h ∙ bit-pack consumes _ _ _))
  not_only a fails h =
      ⊎_elim
      (λ w. not_f0 (only a matches_empty w))
      (λ w. not_f1 (only a consumes w))
      (either _ _ (sym (bit-pack fails _ _ _) ∙ h))

  pub gathered_only : (n : Node) (o : Outcome) → bit o (gathered img known n) ≡ true → Has img n o
  unfolding gathered bit body
  gathered_only Empty matches_empty h = empty_0
  gathered_only Empty consumes h = absurd (true≢false (sym h))
  gathered_only Empty fails h = absurd (true≢false (sym h))
  gathered_only (Text t) matches_empty h = absurd (true≢false (sym h))
  gathered_only (Text t) consumes h = terminal_1
  gathered_only (Text t) fails h = terminal_f
  gathered_only (Sequence a b) o h = then_only a b o h
  gathered_only (Choice a b) o h = else_only a b o h
  gathered_only (Star a) o h = star_only a o h
  gathered_only (NotPredicate a) o h = not_only a o h
  gathered_only (Call r) o h = call_body (only (root img r) o h)
  gathered_only Unlawful matches_empty h = absurd (true≢false (sym h))
  gathered_only Unlawful consumes h = absurd (true≢false (sym h))
  gathered_only Unlawful fails h = absurd (true≢false (sym h))

second_of : (o : Outcome) (x y : ℕ) → bit fails x ≡ true → bit o y ≡ true → bit o (else_set x y) ≡ true
unfolding else_set
second_of matches_empty x y p q = simp (bit-pack, p, q, or-true)
second_of consumes x y p q = simp (bit-pack, p, q, or-true)
second_of fails x y p q = simp (bit-pack, p, q)

module _ (img known : List ℕ) (words : Question4 img) (closed : (n : ℕ) → n < nodes img → Closed img known n) where
  pub gathered_all : {n : Node} {o : Outcome} → Has img n o → Refers img n → bit o (gathered img known n) ≡ true
  unfolding gathered then_set else_set star_set not_set body
  gathered_all empty_0 r = unfold bit in refl
  gathered_all terminal_1 r = unfold bit in refl
  gathered_all terminal_f r = unfold bit in refl
  gathered_all {o = o} (call_body {r = rule} h) l =
      let k = root_in_range img words rule l in
      closed (root img rule) k o (gathered_all h (refers img words (root img rule) k))
  gathered_all (then_00 {a} {b} ha hb) r =
      let p = closed a r.0 matches_empty (gathered_all ha (refers img words a r.0)) in
      let q = closed b r.1 matches_empty (gathered_all hb (refers img words b r.1)) in
      simp (bit-pack, p, q)
  gathered_all (then_10 {a} {b} ha hb) r =
      let p = closed a r.0 consumes (gathered_all ha (refers img words a r.0)) in
      let q = closed b r.1 matches_empty (gathered_all hb (refers img words b r.1)) in
      simp (bit-pack, p, q)
  gathered_all (then_11 {a} {b} ha hb) r =
      let p = closed a r.0 consumes (gathered_all ha (refers img words a r.0)) in
      let q = closed b r.1 consumes (gathered_all hb (refers img words b r.1)) in
      simp (bit-pack, p, q, or-true)
  gathered_all (then_01 {a} {b} ha hb) r =
      let p = closed a r.0 matches_empty (gathered_all ha (refers img words a r.0)) in
      let q = closed b r.1 consumes (gathered_all hb (refers img words b r.1)) in
      simp (bit-pack, p, q, or-true)
  gathered_all (then_f {a} {b} ha) r =
      let p = closed a r.0 fails (gathered_all ha (refers img words a r.0)) in
      simp (bit-pack, p)
  gathered_all (then_0f {a} {b} ha hb) r =
      let p = closed a r.0 matches_empty (gathered_all ha (refers img words a r.0)) in
      let q = closed b r.1 fails (gathered_all hb (refers img words b r.1)) in
      simp (bit-pack, p, q, or-true)
  gathered_all (then_1f {a} {b} ha hb) r =
      let p = closed a r.0 consumes (gathered_all ha (refers img words a r.0)) in
      let q = closed b r.1 fails (gathered_all hb (refers img words b r.1)) in
      simp (bit-pack, p, q, or-true)
  gathered_all (else_0 {a} {b} ha) r =
      let p = closed a r.0 matches_empty (gathered_all ha (refers img words a r.0)) in
      simp (bit-pack, p)
  gathered_all (else_1 {a} {b} ha) r =
      let p = closed a r.0 consumes (gathered_all ha (refers img words a r.0)) in
      simp (bit-pack, p)
  gathered_all (else_second {a} {b} {o} ha hb) r =
      second_of o (get_or known a 0) (get_or known b 0)
      (closed a r.0 fails (gathered_all ha (refers img words a r.0)))
      (closed b r.1 o (gathered_all hb (refers img words b r.1)))
  gathered_all (star_1 {a} ha) r =
      let p = closed a r consumes (gathered_all ha (refers img words a r)) in
      simp (bit-pack, p)
  gathered_all (star_0 {a} ha) r =
      let p = closed a r fails (gathered_all ha (refers img words a r)) in
      simp (bit-pack, p)
  gathered_all (not_f0 {a} ha) r =
      let p = closed a r matches_empty (gathered_all ha (refers img words a r)) in
      simp (bit-pack, p)
  gathered_all (not_f1 {a} ha) r =
      let p = closed a r consumes (gathered_all ha (refers img words a r)) in
      simp (bit-pack, p, or-true)
  gathered_all (not_0 {a} ha) r =
      let p = closed a r fails (gathered_all ha (refers img words a r)) in
      simp (bit-pack, p)
