-- A loaded grammar: which node a word stands for, that the evaluator over a loaded grammar is the one over its image, and so the body
-- of its start rule. Assumes nothing.
use Rattle.std.specs.Prelude.{Result}
use Rattle.grammar.specs.declared.refusal.Refusal.{Refusal}
use Prim.Native.Nat.{ℕ, zero, suc}
use native.Mathlib.Omega.{arith}
use mathlib.Core.Path.{◌≡◌, refl, sym, ap, ◌∙◌, subst}
use mathlib.Core.List.{List}
use lib.ListN.{length, get_or}
use Rattle.grammar.specs.declared.node.NodeFields.{NodeFields}
use Rattle.grammar.specs.declared.node.Node.{Node}
use Rattle.grammar.specs.declared.node.Node.TheVariants.{Empty, Text, Sequence, Choice, Star, NotPredicate, Call, Unlawful}
use Rattle.grammar.specs.Image.{fields_of, node_of, node, rules, root, start}
use Rattle.image.specs.Fields.{SameFields}
use Rattle.image.proofs.SameFields.{same_record}
use Rattle.packrat.specs.Model.{Out, Evaluator, pair_m, rule_m, kind_m, node_m}
use Rattle.loaded.specs.declared.form.LoadedGrammar.{LoadedGrammar}
use Rattle.loaded.specs.Loaded.{word_b, word_node, Loaded}
use Rattle.packrat.specs.Loaded.{node_w, word_m}
use Rattle.packrat.specs.Gives.{Gives}
use Rattle.packrat.specs.Session.{BodyOver}
use Rattle.packrat.proofs.Rules.{node_goes}

-- The node of a word, from the fields that were read from it.
pub word_is : (w : ℕ) {f : NodeFields} → SameFields f (fields_of w) → {m : Node} → node_of f ≡ m → word_node w ≡ m
unfolding word_node
word_is w s e = ap node_of (sym (same_record s)) ∙ e

-- Only a call uses the root.
same_root :
    (R ρ : ℕ) (img text : List ℕ) (ev : Evaluator) (left : ℕ) (m : Node)
    → R ≡ rules img
    → ((r : ℕ) → m ≡ Call r → ρ ≡ root img r)
    → (at : ℕ) (t : List ℕ) (c : ℕ)
    → kind_m text ev (pair_m R ρ text ev left) m at t c ≡ kind_m text ev (rule_m img text ev left) m at t c
unfolding kind_m
same_root R ρ img text ev left Empty e h at t c = refl
same_root R ρ img text ev left (Text x) e h at t c = refl
same_root R ρ img text ev left (Sequence a b) e h at t c = refl
same_root R ρ img text ev left (Choice a b) e h at t c = refl
same_root R ρ img text ev left (Star a) e h at t c = refl
same_root R ρ img text ev left (NotPredicate a) e h at t c = refl
same_root R ρ img text ev left (Call r) e h at t c =
    λ i. kind_m text ev (λ s. pair_m (e i) (h r refl i) text ev left s) (Call r) at t c
same_root R ρ img text ev left Unlawful e h at t c = refl

module _ (img text : List ℕ) {g : LoadedGrammar} (l : Loaded img g) where
  pub loaded_run : (left i at : ℕ) (t : List ℕ) (c : ℕ) → node_w g text left i at t c ≡ node_m img text left i at t c
  unfolding node_w node_m
  loaded_run zero i at t c = refl
  loaded_run (suc left) i at t c =
      (λ k.
      kind_m
      text
      (λ j p u d. loaded_run left j p u d k)
      (pair_m g.rules (word_b (get_or g.words i 0)) text (λ j p u d. loaded_run left j p u d k) left)
      ((l.words_are i).node_is k)
      at
      t
      c)
      ∙ same_root g.rules (word_b (get_or g.words i 0)) img text (node_m img text left) left (node img i) l.rules_are (l.words_are i).root_is at t c

-- So is the start rule's body, which the evaluator is given as its root's word.
pub body_given :
    (img text : List ℕ) {g : LoadedGrammar} (l : Loaded img g) (t : List ℕ) (c : ℕ) {given : Result ℕ Refusal} {d : ℕ} {u : List ℕ}
    → Gives (length text) 0 4096 (word_m g text 4095 (get_or g.words g.start.root 0) 0 t c) given u d
    → BodyOver img text t c given u d
body_given img text {g} l t c {given} {d} {u} h =
    subst (λ (o : Out). Gives (length text) 0 4096 o given u d) (loaded_run img text l 4096 (root img (start img)) 0 t c)
    (node_goes g text 4096 (root img (start img)) 0 t c (λ e. omega arith)
    (subst (λ (ρ : ℕ). Gives (length text) 0 4096 (word_m g text 4095 (get_or g.words ρ 0) 0 t c) given u d) l.root_is h))
