-- The start pair over lent records, and over none; and its rule's body.
use Rattle.grammar.specs.declared.refusal.Refusal.{Refusal}
use Rattle.std.specs.Prelude.{ℕ, List, [], length, Result}
use Rattle.grammar.specs.Image.{root, start}
use Rattle.packrat.specs.Model.{Out, node_m, rule_m}
use Rattle.packrat.specs.Gives.{Gives}

-- The run of the start pair over a table, from a count.
abbrev pub start_run : (img text table : List ℕ) (count : ℕ) → Out
start_run img text table count = rule_m img text (node_m img text 4096) 4096 (start img) 0 table count

-- Its word, or a refusal, and the table and the count that it leaves.
abbrev pub StartOver : (img text table : List ℕ) (count : ℕ) (given : Result ℕ Refusal) (after : List ℕ) (counted : ℕ) → Type 0
StartOver img text table count given after counted = Gives (length text) 0 4096 (start_run img text table count) given after counted

-- The same of its rule's body, which is not looked up.
abbrev pub BodyOver : (img text table : List ℕ) (count : ℕ) (given : Result ℕ Refusal) (after : List ℕ) (counted : ℕ) → Type 0
BodyOver img text table count given after counted =
    Gives (length text) 0 4096 (node_m img text 4096 (root img (start img)) 0 table count) given after counted

-- The start pair's word over no records, or a refusal.
pub record StartWord (img text : List ℕ) (given : Result ℕ Refusal) : Type 0 where
  pub table : List ℕ
  pub count : ℕ
  pub gives : StartOver img text [] 0 given table count
