-- What a step of a run gives to the next: an answered word's bounds, the run after a step, the children of a node.
-- Assumes nothing.
use Rattle.std.specs.Prelude.{Ok, Result}
use Rattle.std.proofs.Common.{◌≡◌, ℕ, ◌+◌, ◌-◌, ◌≤◌, ◌<◌, List, length, sym, ◌∙◌, arith}
use Rattle.grammar.specs.declared.refusal.Refusal.{Refusal}
use Rattle.grammar.specs.declared.node.NodeFields.{NodeFields}
use Rattle.grammar.specs.declared.node.Node.{Node}
use Rattle.grammar.specs.Image.{fields_of, node_of}
use Rattle.grammar.proofs.Nodes.{Few, few}
use Rattle.image.specs.Fields.{SameFields}
use Rattle.records.specs.Words.{word_of, value_of, nesting_of}
use Rattle.packrat.specs.Model.{Out}
use Rattle.packrat.specs.Gives.{Gives}
use Rattle.packrat.proofs.Runs.{nesting_allowed, says_itself}
use Rattle.evaluator.specs.declared.run.Run.{Run}
use Rattle.evaluator.specs.Runs.{node_run, Ready, Kept}

-- An answered word says its evaluation and nothing else, and its nesting is allowed.
pub answered :
    {p : Run} {at next left r d : ℕ} {o : Out} {u : List ℕ}
    → Ready p at (left + 1)
    → Gives (length p.text.now) next left o (Ok r) u d
    → (r ≡ word_of (value_of r)) × (nesting_of r ≤ 4096)
answered {p} ready g =
    let most = ready.most in
    (says_itself p.short (omega arith) g, omega (arith, nesting_allowed p.short (omega arith) g))

-- What a step gives over the run that it finds, it gives over the run before.
pub before :
    (p q : Run) (i : ℕ) (t : List ℕ) (c : ℕ) {left at next d : ℕ} {r : Result ℕ Refusal} {u : List ℕ}
    → Kept p q
    → at ≡ next
    → Gives (length q.text.now) at left (node_run q left i at t c) r u d
    → Gives (length p.text.now) next left (node_run p left i next t c) r u d
before p q i t c kept e g = rw (sym kept.1, sym kept.2, sym e) g

pub kept_on : (p q s : Run) → Kept p q → Kept q s → Kept p s
kept_on p q s k l = (l.0 ∙ k.0, l.1 ∙ k.1, l.2 ∙ k.2)

-- So it finds the run ready for what is evaluated inside, at a place of the text.
pub ready_after :
    (p q : Run) {at next left : ℕ} → Kept p q → Ready p at (left + 1) → next ≤ length p.text.now → Ready q next left
ready_after p q kept ready here =
    let most = ready.most in
    record { here = rw kept.2 here; most = omega arith }

-- What a word's node has inside is evaluated with an allowance that is one less.
pub inside :
    (p : Run) (word : ℕ) {at left : ℕ} {f : NodeFields} {n m : Node}
    → Ready p at left × (0 < left)
    → SameFields f (fields_of word)
    → n ≡ node_of f
    → n ≡ m
    → Ready p at (left - 1 + 1) × Few m
inside p word {f = f} pre same e is =
    let ready = pre.0 in
    let some = pre.1 in
    let most = ready.most in (
      record { here = ready.here; most = omega arith },
      few f (omega (arith, same.its_a)) (omega (arith, same.its_b)) (sym e ∙ is),
    )
