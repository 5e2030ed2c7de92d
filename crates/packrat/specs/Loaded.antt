-- The evaluator over a loaded grammar as a function.
use Rattle.grammar.specs.declared.refusal.Refusal.TheVariants.{Nesting}
use Rattle.std.specs.Prelude.{ℕ, zero, suc, List, get_or}
use Rattle.grammar.specs.declared.node.Node.{Node}
use Rattle.loaded.specs.declared.form.LoadedGrammar.{LoadedGrammar}
use Rattle.loaded.specs.Loaded.{word_node, word_b}
use Rattle.packrat.specs.Model.{Out, out, refused, Evaluator, pair_m, kind_m}

-- A node of a loaded grammar, with an allowance of nesting; see Model.
unfoldable pub node_w : (g : LoadedGrammar) (text : List ℕ) → (left : ℕ) → Evaluator
node_w g text zero i at t c = out (refused Nesting) t c
node_w g text (suc left) i at t c =
    kind_m
    text
    (node_w g text left)
    (pair_m g.rules (word_b (get_or g.words i 0)) text (node_w g text left) left)
    (word_node (get_or g.words i 0))
    at
    t
    c

-- What is evaluated inside has the allowance `left`; a called rule has that root.
abbrev pub kind_w : (g : LoadedGrammar) (text : List ℕ) → (left root : ℕ) → Node → (at : ℕ) → List ℕ → ℕ → Out
kind_w g text left root = kind_m text (node_w g text left) (pair_m g.rules root text (node_w g text left) left)

-- A node's word.
abbrev pub word_m : (g : LoadedGrammar) (text : List ℕ) → (left word at : ℕ) → List ℕ → ℕ → Out
word_m g text left w = kind_w g text left (word_b w) (word_node w)
