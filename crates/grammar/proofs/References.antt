-- In an image whose words are lawful (question 4), a node refers only to nodes and rules of the image.
-- Assumes nothing.
use Prim.Native.Nat.{ℕ, zero, suc, ◌<◌}
use native.Mathlib.Omega.{arith}
use mathlib.Core.Path.{◌≡◌}
use mathlib.Core.List.{List}
use Rattle.grammar.specs.Image.{rules, nodes, root, fields_at, kind, node}
use Rattle.grammar.specs.declared.node.Node.{Node}
use Rattle.grammar.specs.declared.node.Node.TheVariants.{Empty, Text, Sequence, Choice, Star, NotPredicate, Call, Unlawful}
use Rattle.grammar.specs.Questions.{Question4}
use Rattle.grammar.proofs.Nodes.{is_empty, is_any, is_range, is_sequence, is_choice, is_star, is_not, is_call, is_unlawful}

-- The node refers only to nodes and rules of the image.
abbrev pub Refers : List ℕ → Node → Type 0
Refers img Empty = Unit {0}
Refers img (Text t) = Unit {0}
Refers img (Sequence a b) = (a < nodes img) × (b < nodes img)
Refers img (Choice a b) = (a < nodes img) × (b < nodes img)
Refers img (Star a) = a < nodes img
Refers img (NotPredicate a) = a < nodes img
Refers img (Call r) = r < rules img
Refers img Unlawful = Unit {0}

module _ (img : List ℕ) (words : Question4 img) where
  pub root_in_range : (r : ℕ) → r < rules img → root img r < nodes img
  root_in_range r l = (words.rule_words r l).root_node

  pub refers : (n : ℕ) → n < nodes img → Refers img (node img n)
  refers n l = by_kind (kind img n) (omega arith)
    where
      by_kind : (k : ℕ) → kind img n ≡ k → Refers img (node img n)
      by_kind zero e = rw (is_empty (fields_at img n) e) tt
      by_kind (suc zero) e = rw (is_any (fields_at img n) e) tt
      by_kind (suc (suc zero)) e = rw (is_range (fields_at img n) e) tt
      by_kind (suc (suc (suc zero))) e =
          let a = (words.node_words n l).child_A (omega arith) (omega arith) in
          let b = (words.node_words n l).child_B (omega arith) (omega arith) in
          rw (is_sequence (fields_at img n) e) (a.1, b.1)
      by_kind (suc (suc (suc (suc zero)))) e =
          let a = (words.node_words n l).child_A (omega arith) (omega arith) in
          let b = (words.node_words n l).child_B (omega arith) (omega arith) in
          rw (is_choice (fields_at img n) e) (a.1, b.1)
      by_kind (suc (suc (suc (suc (suc zero))))) e =
          rw (is_star (fields_at img n) e) ((words.node_words n l).child_A (omega arith) (omega arith)).1
      by_kind (suc (suc (suc (suc (suc (suc zero)))))) e =
          rw (is_not (fields_at img n) e) ((words.node_words n l).child_A (omega arith) (omega arith)).1
      by_kind (suc (suc (suc (suc (suc (suc (suc zero))))))) e = rw (is_call (fields_at img n) e) ((words.node_words n l).called e)
      by_kind (suc (suc (suc (suc (suc (suc (suc (suc k)))))))) e = rw (is_unlawful (fields_at img n) (omega arith)) tt
