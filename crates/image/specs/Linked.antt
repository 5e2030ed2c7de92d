-- The nodes' words as the image check and the readers keep them: a call's field B, which is 0 in a lawful image, is the root of the
-- called rule.
use Rattle.std.specs.Prelude.{ℕ, ◌+◌, ◌*◌, ◌/◌, ◌^◌, ◌≡◌, ◌<◌, ◌≤◌, Bool, true, false, List, eqb, get_or}
use Rattle.grammar.specs.declared.node.NodeFields.{NodeFields}
use Rattle.grammar.specs.Image.{nodes, node_word, fields_of, root, kind, node_zero, field_a, field_b}

abbrev pub linked_if : (calls : Bool) (word root : ℕ) → ℕ
linked_if false word root = word
linked_if true word root = word / 2 ^ 12 * 2 ^ 12 + root

abbrev pub linked_from : List ℕ → (word : ℕ) → ℕ
linked_from img word = linked_if (eqb (fields_of word).kind 7) word (root img (fields_of word).a)

abbrev pub linked_word : List ℕ → ℕ → ℕ
linked_word img n = linked_from img (node_word img n)

-- The fields of such a word.
pub record Linked (img : List ℕ) (n : ℕ) (f : NodeFields) : Type 0 where
  pub same_kind : f.kind ≡ kind img n
  pub same_zero : f.zero ≡ node_zero img n
  pub same_a : f.a ≡ field_a img n
  pub same_b : (kind img n ≡ 7 → ⊥) → f.b ≡ field_b img n
  pub root_for_b : kind img n ≡ 7 → f.b ≡ root img (field_a img n)

-- The words of all nodes, and 0 past the last.
pub record LinkedWords (img words : List ℕ) : Type 0 where
  pub word_of : (n : ℕ) → n < nodes img → get_or words n 0 ≡ linked_word img n
  pub past : (n : ℕ) → nodes img ≤ n → get_or words n 0 ≡ 0
