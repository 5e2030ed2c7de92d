-- A run of the evaluator: the evaluator's function over what a run has, and what each method may assume, keeps and gives.
use Rattle.std.specs.Prelude.{ℕ, ◌≤◌, ◌≡◌, List, length, Result}
use Rattle.grammar.specs.declared.node.Node.{Node}
use Rattle.grammar.specs.declared.refusal.Refusal.{Refusal}
use Rattle.packrat.specs.Model.{Out, Evaluator, pair_m}
use Rattle.packrat.specs.Loaded.{node_w, word_m, kind_w}
use Rattle.packrat.specs.Gives as packrat
use Rattle.evaluator.specs.declared.run.Run.{Run}

-- What a run evaluates with an allowance of nesting: nodes by their number, a word, what a node has inside, a rule with that root.
module _ (p : Run) (left : ℕ) where
  abbrev pub node_run : Evaluator
  node_run = node_w p.grammar.now p.text.now left

  abbrev pub word_run : (word at : ℕ) → List ℕ → ℕ → Out
  word_run = word_m p.grammar.now p.text.now left

  abbrev pub kind_run : (root : ℕ) → Node → (at : ℕ) → List ℕ → ℕ → Out
  kind_run = kind_w p.grammar.now p.text.now left

  abbrev pub rule_run : (root : ℕ) → Evaluator
  rule_run root = pair_m p.grammar.now.rules root p.text.now node_run left

-- What a method may assume: a position in the text, an allowance.
pub record Ready (p : Run) (at left : ℕ) : Type 0 where
  pub here : at ≤ length p.text.now
  pub most : left ≤ 4096

-- What a method keeps: which table is lent, the grammar and the text.
abbrev pub Kept : (before after : Run) → Type 0
Kept p q = (q.table.ghost_name ≡ p.table.ghost_name) × (q.grammar.now ≡ p.grammar.now) × (q.text.now ≡ p.text.now)

-- What it gives: the answer of the model over the run's table and count, which are the model's after it.
abbrev pub Gives : (before : Run) (at left : ℕ) (model : (at : ℕ) → List ℕ → ℕ → Out) (given : Result ℕ Refusal) (after : Run) → Type 0
Gives p at left model given q =
    packrat.Gives (length p.text.now) at left (model at p.table.now p.count) given q.table.now q.count
