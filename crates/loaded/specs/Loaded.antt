-- A grammar that was read once from its image. It has the number of rules, the start rule with its body's root, and a word for each
-- number that a field of 12 bits can have: the linked words of the nodes. A call's field B, which is 0 in the image, is the root of the
-- called rule.
use Rattle.std.specs.Prelude.{ℕ, ◌≡◌, List, get_or}
use Rattle.grammar.specs.declared.node.Node.{Node}
use Rattle.grammar.specs.declared.node.Node.TheVariants.{Call}
use Rattle.grammar.specs.Image.{fields_of, node_of, node, rules, start, root}
use Rattle.loaded.specs.declared.form.LoadedGrammar.{LoadedGrammar}

-- The node that a word stands for, and its field B.
unfoldable pub word_node : ℕ → Node
word_node w = node_of (fields_of w)

abbrev pub word_b : ℕ → ℕ
word_b w = (fields_of w).b

-- The word of node i of the image, loaded.
pub record LoadedWord (img : List ℕ) (i word : ℕ) : Type 0 where
  pub node_is : word_node word ≡ node img i
  pub root_is : (r : ℕ) → node img i ≡ Call r → word_b word ≡ root img r

-- A loaded grammar is the image's. Past the last node the image reads as 0, and so does the loaded grammar.
pub record Loaded (img : List ℕ) (g : LoadedGrammar) : Type 0 where
  pub rules_are : g.rules ≡ rules img
  pub start_is : g.start.rule ≡ start img
  pub root_is : g.start.root ≡ root img (start img)
  pub words_are : (i : ℕ) → LoadedWord img i (get_or g.words i 0)
