-- The image check's number: it is unique, and it is 0 exactly when the image is lawful and every node is well formed, since question
-- 6 follows from question 7. Also: the number of a lawful image. Assumes nothing.
use Prim.Native.Nat.{ℕ}
use native.Mathlib.Omega.{arith}
use mathlib.Core.Path.{◌≡◌, refl}
use mathlib.Core.List.{List}
use mathlib.Core.Logic.{inl, inr, ◌↔◌}
use Rattle.grammar.specs.declared.node.Node.TheVariants.{Star}
use Rattle.grammar.specs.Image.{node}
use Rattle.grammar.specs.Outcomes.{Has, matches_empty}
use Rattle.grammar.specs.WellFormed.{WellFormed, wf_star}
use Rattle.grammar.specs.Questions.{Question6, Question7, First, Checked, Lawful, Accepted, of_image}
use Rattle.grammar.proofs.First.{unique}

pub one_number : {img : List ℕ} {r s : ℕ} → Checked img r → Checked img s → r ≡ s
one_number {img} {r} {s} a b = unique (of_image img) r s a.first b.first

-- The number of a lawful image that fails question 6, that fails question 7, and that passes both.
module _ {img : List ℕ} (l : Lawful img) where
  pub refused_6 : (Question6 img → ⊥) → Checked img 6
  refused_6 n =
      record {
        first = inr (l.header, inr (l.counts, inr (l.size, inr (l.words, inr (l.tree, inl (n, refl))))));
      }

  pub refused_7 : Question6 img → (Question7 img → ⊥) → Checked img 7
  refused_7 q n =
      record {
        first = inr (l.header, inr (l.counts, inr (l.size, inr (l.words, inr (l.tree, inr (q, inl (n, refl)))))));
      }

  pub passed : Question6 img → Question7 img → Checked img 0
  passed q f =
      record {
        first = inr (l.header, inr (l.counts, inr (l.size, inr (l.words, inr (l.tree, inr (q, inr (f, refl)))))));
      }

-- A star in the well-formed set has a body that lacks outcome 0.
star_lacks_0 : {img : List ℕ} {a : ℕ} → WellFormed img (Star a) → Has img (node img a) matches_empty → ⊥
star_lacks_0 (wf_star w lacks) = lacks

pub stars_of_formed : {img : List ℕ} → Question7 img → Question6 img
stars_of_formed {img} q = record { stars = λ n a l e. star_lacks_0 (rw e at (q.every_node n l)) }

pub accepted : {img : List ℕ} → Checked img 0 → Accepted img
accepted {img} c = go c.first
  where
    go : First (of_image img) 0 → Accepted img
    go (inl a) = absurd (let e = a.1 in omega arith)
    go (inr (q1, inl a)) = absurd (let e = a.1 in omega arith)
    go (inr (q1, inr (q2, inl a))) = absurd (let e = a.1 in omega arith)
    go (inr (q1, inr (q2, inr (q3, inl a)))) = absurd (let e = a.1 in omega arith)
    go (inr (q1, inr (q2, inr (q3, inr (q4, inl a))))) = absurd (let e = a.1 in omega arith)
    go (inr (q1, inr (q2, inr (q3, inr (q4, inr (q5, inl a)))))) = absurd (let e = a.1 in omega arith)
    go (inr (q1, inr (q2, inr (q3, inr (q4, inr (q5, inr (q6, inl a))))))) = absurd (let e = a.1 in omega arith)
    go (inr (q1, inr (q2, inr (q3, inr (q4, inr (q5, inr (q6, inr (q7, e)))))))) =
        record { lawful = record { header = q1; counts = q2; size = q3; words = q4; tree = q5 }; well_formed = q7 }

pub checked : {img : List ℕ} → Accepted img → Checked img 0
checked a = passed a.lawful (stars_of_formed a.well_formed) a.well_formed

-- Demand 2: a grammar is accepted exactly when it is lawful and well formed by Ford's rules.
pub accepted_exactly : (img : List ℕ) → Checked img 0 ↔ Accepted img
accepted_exactly img = (accepted, checked)
