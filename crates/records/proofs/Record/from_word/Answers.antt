use Rattle.records.proofs.Test.{none_found, found}
use borrow.Author.Tests.{not-true, not-false}
use native.Mathlib.Omega.{arith}
use mathlib.Core.Bool.{true≢false}
use mathlib.Core.Path.{sym, ◌∙◌}
use Rattle.records.proofs.Record.from_word.Goals as goal
use Rattle.records.proofs.Record.from_word.Goals.{then-n-at-3+else-n-at-4, else-n-at-3}

pub returns-then-said-lt1 : goal.returns-then-said-lt1
returns-then-said-lt1 c =
    none_found c.args.word c.args.at c.args.n (λ h. omega (arith, h.some_nesting))

pub returns-then-said-gt-MAX_NESTING : goal.returns-then-said-gt-MAX_NESTING
returns-then-said-gt-MAX_NESTING c =
    none_found c.args.word c.args.at c.args.n (λ h. omega (arith, h.most_nesting))

pub returns-then-said : goal.returns-then-said
returns-then-said c =
    none_found c.args.word c.args.at c.args.n (λ h. omega (arith, h.in_examined))

pub returns-then-n-at : goal.returns-then-n-at
returns-then-n-at c =
    none_found c.args.word c.args.at c.args.n (λ h. omega (arith, h.in_text))

pub returns-then-n-at-2 : goal.returns-then-n-at-2
returns-then-n-at-2 c =
    none_found c.args.word c.args.at c.args.n (λ h. omega (arith, h.in_text))

pub returns-then-said-ne0 : goal.returns-then-said-ne0
returns-then-said-ne0 c =
    none_found c.args.word c.args.at c.args.n (λ h. c.if-said-ne0.true (omega (arith, h.zero_bits)))

pub returns-then-n-at-4 : goal.returns-then-n-at-4
returns-then-n-at-4 c =
    none_found c.args.word c.args.at c.args.n (λ h. omega (arith, h.up_to_end))

pub returns-then-said-ne0-2 : goal.returns-then-said-ne0-2
returns-then-said-ne0-2 c =
    none_found c.args.word c.args.at c.args.n (λ h. c.if-said-ne0-2.true (omega (arith, h.failure (sym c.said_by-said.ensures.matched_is ∙ not-true c.said_by-said.result.matched c.if-not-said.true))))

pub returns-else-said-ne0-2 : goal.returns-else-said-ne0-2
returns-else-said-ne0-2 c =
    found c.args.word c.args.at c.args.n c.said_by-said.ensures
    (record {
      some_nesting = omega arith;
      most_nesting = omega arith;
      in_examined = omega arith;
      in_text = omega arith;
      up_to_end = elim c.if-n-at-3.branch [ then-n-at-3+else-n-at-4 w ↦ omega arith | else-n-at-3 w ↦ omega arith ];
      failure = λ f. omega arith;
      zero_bits = omega arith;
    })

pub returns-else-not-said : goal.returns-else-not-said
returns-else-not-said c =
    found c.args.word c.args.at c.args.n c.said_by-said.ensures
    (record {
      some_nesting = omega arith;
      most_nesting = omega arith;
      in_examined = omega arith;
      in_text = omega arith;
      up_to_end = elim c.if-n-at-3.branch [ then-n-at-3+else-n-at-4 w ↦ omega arith | else-n-at-3 w ↦ omega arith ];
      failure = λ f. absurd (true≢false (sym (not-false c.said_by-said.result.matched c.if-not-said.false) ∙ c.said_by-said.ensures.matched_is ∙ f));
      zero_bits = omega arith;
    })
