-- The questions, in order. `First` says which of a list of questions fails first; the calls ask questions 1 to 11 in this form, the plain
-- reading 14 too.
-- Here are `First` and questions 1 to 7, which ask about the image.
use Rattle.std.specs.Prelude.{ℕ, suc, zero, ◌+◌, ◌*◌, ◌≤◌, ◌<◌, ◌≡◌, List, [], ◌∷◌, ◌++◌, ◌⊎◌, length, Bool, true, false, eqb}
use Rattle.grammar.specs.Image.{edition, rules, nodes, start, rule_zero, root, kind, node_zero, field_a, field_b}
use Rattle.grammar.specs.declared.node.Node.TheVariants.{Star}
use Rattle.grammar.specs.Image.{node, children}
use Rattle.grammar.specs.Outcomes.{Has, matches_empty}
use Rattle.grammar.specs.WellFormed.{WellFormed}

-- A question has the number that is given where the answer is no.
pub record Question : Type 1 where
  pub number : ℕ
  pub holds : Type 0

-- First qs r: r is the number of the first of the questions qs that fails, or 0 where none does.
abbrev pub First : List Question → ℕ → Type 0
First [] r = r ≡ 0
First (q ∷ qs) r = ((q.holds → ⊥) × (r ≡ q.number)) ⊎ (q.holds × First qs r)

-- "1. Are there 4 bytes, and edition 1?"
pub record Question1 (img : List ℕ) : Type 0 where
  pub four_bytes : 4 ≤ length img
  pub edition_1 : edition img ≡ 1

-- "2. Rules 1 to 64, nodes 1 to 1,024, start below rules?"
pub record Question2 (img : List ℕ) : Type 0 where
  pub some_rules : 1 ≤ rules img
  pub few_rules : rules img ≤ 64
  pub some_nodes : 1 ≤ nodes img
  pub few_nodes : nodes img ≤ 1024
  pub start_rule : start img < rules img

-- "3. Are there exactly 4 + 2 × rules + 4 × nodes bytes?"
pub record Question3 (img : List ℕ) : Type 0 where
  pub exact : length img ≡ 4 + 2 * rules img + 4 * nodes img

-- "4. Is every word lawful: zero bits and unused fields 0, kind 0 to 7, A ≤ B ≤ 255 in kind 2, references in range, children above
-- parents?" A rule's word has zero bits and the reference to its root.
pub record LawfulRule (img : List ℕ) (r : ℕ) : Type 0 where
  pub zero_bits : rule_zero img r ≡ 0
  pub root_node : root img r < nodes img

-- "Fields that a kind doesn't use are zero. A child's number is above its parent's." Kinds 0 and 1 use neither field, kinds 5 to 7
-- only A; A is a child in kinds 3 to 6 and B in kinds 3 and 4; in kind 7 A is a rule. "Question 4 allows the bit [the fold bit] in kind 2
-- only." (02, R-1) So in every other kind all four zero bits are 0, and in kind 2 the three above the fold bit.
pub record LawfulNode (img : List ℕ) (n : ℕ) : Type 0 where
  pub zero_bits : (kind img n ≡ 2 → ⊥) → node_zero img n ≡ 0
  pub zero_bits_2 : kind img n ≡ 2 → node_zero img n ≤ 1
  pub known_kind : kind img n ≤ 7
  pub unused_A : kind img n ≤ 1 → field_a img n ≡ 0
  pub unused_B : kind img n ≤ 1 → field_b img n ≡ 0
  pub unused_B_5_to_7 : 5 ≤ kind img n → field_b img n ≡ 0
  pub byte_range : kind img n ≡ 2 → (field_a img n ≤ field_b img n) × (field_b img n ≤ 255)
  pub child_A : 3 ≤ kind img n → kind img n ≤ 6 → (n < field_a img n) × (field_a img n < nodes img)
  pub child_B : 3 ≤ kind img n → kind img n ≤ 4 → (n < field_b img n) × (field_b img n < nodes img)
  pub called : kind img n ≡ 7 → field_a img n < rules img

pub record Question4 (img : List ℕ) : Type 0 where
  pub rule_words : (r : ℕ) → r < rules img → LawfulRule img r
  pub node_words : (n : ℕ) → n < nodes img → LawfulNode img n

-- The roots of the first k rules, and the children of the first k nodes.
unfoldable pub roots : List ℕ → ℕ → List ℕ
roots img zero = []
roots img (suc k) = root img k ∷ roots img k

unfoldable pub children_below : List ℕ → ℕ → List ℕ
children_below img zero = []
children_below img (suc k) = children (node img k) ++ children_below img k

-- How often n occurs in a list.
abbrev pub one_if : Bool → ℕ
one_if true = 1
one_if false = 0

unfoldable pub occurrences : ℕ → List ℕ → ℕ
occurrences n [] = 0
occurrences n (m ∷ ms) = one_if (eqb m n) + occurrences n ms

-- "5. Does each node occur exactly once among roots and children?"
pub record Question5 (img : List ℕ) : Type 0 where
  pub once : (n : ℕ) → n < nodes img → occurrences n (roots img (rules img) ++ children_below img (nodes img)) ≡ 1

-- "6. Does every star's body lack outcome 0?"
pub record Question6 (img : List ℕ) : Type 0 where
  pub stars : (n a : ℕ) → n < nodes img → node img n ≡ Star a → Has img (node img a) matches_empty → ⊥

-- "7. Is every node in the well-formed set?"
pub record Question7 (img : List ℕ) : Type 0 where
  pub every_node : (n : ℕ) → n < nodes img → WellFormed img (node img n)

-- Questions 1 to 5, which ask nothing of what the grammar means,
abbrev pub of_lawful : List ℕ → List Question
of_lawful img =
    record { number = 1; holds = Question1 img }
    ∷ record { number = 2; holds = Question2 img }
    ∷ record { number = 3; holds = Question3 img }
    ∷ record { number = 4; holds = Question4 img }
    ∷ record { number = 5; holds = Question5 img }
    ∷ []

-- and all the questions on the image, in order. A call with questions of its own appends them, from 8 on.
abbrev pub of_image : List ℕ → List Question
of_image img =
    of_lawful img ++ record { number = 6; holds = Question6 img } ∷ record { number = 7; holds = Question7 img } ∷ []

-- What the image check promises: "The image check asks 1 to 7 only and gives 0 when all pass."
pub record Checked (img : List ℕ) (r : ℕ) : Type 0 where
  pub first : First (of_image img) r

-- A lawful image passes questions 1 to 5.
pub record Lawful (img : List ℕ) : Type 0 where
  pub header : Question1 img
  pub counts : Question2 img
  pub size : Question3 img
  pub words : Question4 img
  pub tree : Question5 img

-- An accepted image is lawful, and every node is well formed (demand 2). Question 6 then holds too: a star is in the well-formed
-- set only if its body lacks outcome 0.
pub record Accepted (img : List ℕ) : Type 0 where
  pub lawful : Lawful img
  pub well_formed : Question7 img
