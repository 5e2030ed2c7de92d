-- A word that stands for a terminal: its answer is the terminal's, and table and count stay; and the words that are told by their first
-- byte. Assumes nothing.
use Rattle.std.proofs.Common.{Ok, ◌≡◌, ℕ, ◌-◌, ◌/◌, ◌^◌, ◌≤◌, ◌<◌, List, length, refl, ◌∙◌, arith}
use Rattle.grammar.specs.declared.node.NodeFields.{NodeFields}
use Rattle.grammar.specs.declared.node.Terminal.{Terminal}
use Rattle.grammar.specs.declared.node.Node.TheVariants.{Text}
use Rattle.grammar.specs.declared.node.Terminal.TheVariants.{Any, Range}
use Rattle.grammar.specs.Image.{fields_of}
use Rattle.grammar.specs.Terminal.{terminal_at}
use Rattle.grammar.proofs.Nodes.{is_any, is_plain_range}
use Rattle.grammar.proofs.Terminals.{shape}
use Rattle.evaluation.proofs.Shape.{terminal_within}
use Rattle.image.specs.Fields.{SameFields}
use Rattle.image.proofs.FirstByte.{kind-alone}
use Rattle.records.specs.Words.{word_of}
use Rattle.packrat.specs.Model.{kind_m}
use Rattle.loaded.specs.declared.form.LoadedGrammar.{LoadedGrammar}
use Rattle.loaded.specs.Loaded.{word_node}
use Rattle.packrat.specs.Loaded.{word_m}
use Rattle.packrat.specs.Gives.{Gives}
use Rattle.packrat.proofs.Gives.{gives_value}
use Rattle.packrat.proofs.Rules.{word_goes}
use Rattle.packrat.proofs.LoadedRuns.{word_is}

pub terminal_goes :
    (g : LoadedGrammar) (text : List ℕ) (left w at : ℕ) (table : List ℕ) (count : ℕ) {t : Terminal} {r : ℕ}
    → at ≤ length text
    → 0 < left
    → word_node w ≡ Text t
    → r ≡ word_of (terminal_at t text at)
    → Gives (length text) at left (word_m g text (left - 1) w at table count) (Ok r) table count
unfolding kind_m
terminal_goes g text left w at table count {t} here some is e =
    let s = shape t text at here in
    word_goes g text left w at table count (λ z. omega arith) is
    (gives_value (terminal_at t text at) refl e
    (terminal_within t text at here)
    (omega (arith, s.flat)))

-- The words that are answered by their first byte: any,
pub first_any : (word : ℕ) → word / 2 ^ 24 ≡ 0x10 → word_node word ≡ Text Any
unfolding word_node
first_any word e = is_any (fields_of word) (kind-alone word 1 (omega arith) e).0

-- and a byte range without the fold bit.
pub first_range :
    (word : ℕ) {f : NodeFields} → SameFields f (fields_of word) → word / 2 ^ 24 ≡ 0x20 → word_node word ≡ Text (Range f.a f.b)
first_range word {f} same e =
    let told = kind-alone word 2 (omega arith) e in
    word_is word same (is_plain_range f (same.its_kind ∙ told.0) (omega (arith, same.its_zero, told.1)))
