-- What the arrays of the check ask: a rule's root and a child are below 1,024; and the children of a node by what it is.
-- Assumes nothing.
use Prim.Native.Nat.{ℕ, ◌<◌}
use native.Mathlib.Omega.{arith}
use mathlib.Core.Path.{◌≡◌, refl, ap}
use mathlib.Core.List.{List, [], ◌∷◌}
use mathlib.Core.Logic.{◌⊎◌, inl, inr}
use Rattle.grammar.specs.declared.node.Node.{Node}
use Rattle.grammar.specs.declared.node.Node.TheVariants.{Empty, Text, Sequence, Choice, Star, NotPredicate, Call, Unlawful}
use Rattle.grammar.specs.Image.{rules, nodes, root, node, children}
use Rattle.grammar.specs.Questions.{Question2, Question4}
use Rattle.grammar.proofs.References.{refers}

-- A rule's root has a place in the arrays.
module _ (img : List ℕ) (counts : Question2 img) (words : Question4 img) where
  pub root_below : (r : ℕ) → r < rules img → root img r < 1024
  root_below r l = omega (arith, (words.rule_words r l).root_node, counts.few_nodes)

-- The children of a node that has two, one and none, and their places in the arrays.
module _ (img : List ℕ) (counts : Question2 img) (words : Question4 img) (n : ℕ) (l : n < nodes img) {a b : ℕ} where
  pub two_below : (node img n ≡ Sequence a b) ⊎ (node img n ≡ Choice a b) → (a < 1024) × (b < 1024)
  two_below (inl e) = let r = rw e at (refers img words n l) in (omega (arith, r.0, counts.few_nodes), omega (arith, r.1, counts.few_nodes))
  two_below (inr e) = let r = rw e at (refers img words n l) in (omega (arith, r.0, counts.few_nodes), omega (arith, r.1, counts.few_nodes))

module _ (img : List ℕ) (counts : Question2 img) (words : Question4 img) (n : ℕ) (l : n < nodes img) {a : ℕ} where
  pub one_below : (node img n ≡ Star a) ⊎ (node img n ≡ NotPredicate a) → a < 1024
  one_below (inl e) = let r = rw e at (refers img words n l) in omega (arith, r, counts.few_nodes)
  one_below (inr e) = let r = rw e at (refers img words n l) in omega (arith, r, counts.few_nodes)

module _ {m : Node} {a b : ℕ} where
  pub two_children : (m ≡ Sequence a b) ⊎ (m ≡ Choice a b) → children m ≡ a ∷ b ∷ []
  two_children (inl e) = ap children e
  two_children (inr e) = ap children e

module _ {m : Node} {a : ℕ} where
  pub one_child : (m ≡ Star a) ⊎ (m ≡ NotPredicate a) → children m ≡ a ∷ []
  one_child (inl e) = ap children e
  one_child (inr e) = ap children e

pub no_child :
    (m : Node)
    → ((a b : ℕ) → m ≡ Sequence a b → ⊥)
    → ((a b : ℕ) → m ≡ Choice a b → ⊥)
    → ((a : ℕ) → m ≡ Star a → ⊥)
    → ((a : ℕ) → m ≡ NotPredicate a → ⊥)
    → children m ≡ []
no_child Empty p q r s = refl
no_child (Text t) p q r s = refl
no_child (Sequence a b) p q r s = absurd (p a b refl)
no_child (Choice a b) p q r s = absurd (q a b refl)
no_child (Star a) p q r s = absurd (r a refl)
no_child (NotPredicate a) p q r s = absurd (s a refl)
no_child (Call a) p q r s = refl
no_child Unlawful p q r s = refl
