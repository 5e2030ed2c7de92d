-- The parts of question 4 that a function each asks of a node.
use Rattle.std.specs.Prelude.{ℕ, ◌≤◌, ◌<◌, ◌≡◌, List}
use Rattle.grammar.specs.Image.{rules, nodes}

-- The zero bits of a node's word are 0; in kind 2 the lowest, the fold bit, may be 1.
pub record ZeroBits (kind zero : ℕ) : Type 0 where
  pub all_zero : (kind ≡ 2 → ⊥) → zero ≡ 0
  pub all_but_fold : kind ≡ 2 → zero ≤ 1

-- A field that can be a child of node n.
pub record Child (img : List ℕ) (n field : ℕ) : Type 0 where
  pub above : n < field
  pub in_range : field < nodes img

-- The fields A and B of a lawful node, by its kind: 0 and 1,
pub record Unused (a b : ℕ) : Type 0 where
  pub a_zero : a ≡ 0
  pub b_zero : b ≡ 0

-- 2,
pub record ByteRange (a b : ℕ) : Type 0 where
  pub rising : a ≤ b
  pub a_byte : b ≤ 255

-- 3 and 4,
pub record TwoChildren (img : List ℕ) (n a b : ℕ) : Type 0 where
  pub first : Child img n a
  pub second : Child img n b

-- 5 and 6,
pub record OneChild (img : List ℕ) (n a b : ℕ) : Type 0 where
  pub child : Child img n a
  pub b_zero : b ≡ 0

-- and 7.
pub record CallOf (img : List ℕ) (a b : ℕ) : Type 0 where
  pub a_rule : a < rules img
  pub b_zero : b ≡ 0
