-- M10: k brackets have nesting 3 (k + 1), by induction; so 1,364 are read with nesting 4,095 and 1,365 are refused with 14. Assumes nothing.
use Rattle.std.specs.Prelude.{Ok, Err}
use Rattle.grammar.specs.declared.refusal.Refusal.TheVariants.{Nesting}
use Prim.Native.Nat.{ℕ, zero, suc, ◌+◌, ◌*◌, ◌≤◌, ◌<◌, max}
use native.Mathlib.Omega.{arith}
use mathlib.Core.Path.{◌≡◌, refl, sym, ap, ◌∙◌, subst}
use mathlib.Core.Bool.{Bool, true, cond}
use mathlib.Core.List.{List, [], ◌∷◌}
use mathlib.Core.Logic.{inl, inr}
use lib.ListN.{length, length-replicate, get_or-replicate}
use Rattle.grammar.specs.declared.Evaluation.{Evaluation}
use Rattle.grammar.specs.Image.{edition, rules, nodes, start, rule_zero, root, rule_word, node_word, fields_at}
use Rattle.grammar.specs.declared.node.Terminal.TheVariants.{Range}
use Rattle.grammar.specs.Image.{node, node_of, body, byte_at}
use Rattle.grammar.specs.WellFormed.{WellFormed, wf_empty, wf_terminal, wf_call, wf_then, wf_else}
use Rattle.grammar.specs.Questions.{Question, Question7, Checked, of_image, roots, children_below, occurrences}
use Rattle.grammar.specs.Terminal.{terminal_at, accepts, has_at, taken, not_taken}
use Rattle.grammar.specs.Evaluates.{Fresh, bodies_only, a_pair}
use Rattle.grammar.specs.Evaluates.{ev_empty, ev_terminal, ev_then_first_fails, ev_then, ev_else_first, ev_else_second, ev_call, ev_body}
use Rattle.grammar.specs.Tests.{every, header_test, rule_test, node_test, words_test, once_test}
use Rattle.grammar.proofs.Tests.{lawful_image}
use Rattle.grammar.proofs.Terminals.{has_there, has_not, by_byte, range_alone}
use Rattle.grammar.proofs.First.{then_asked, image_numbers}
use Rattle.grammar.proofs.Acceptance.{checked, accepted}
use Rattle.grammar.proofs.Determinism.{one}
use Rattle.reading.specs.declared.plain.Outcome.{Outcome}
use Rattle.reading.specs.Plain.{ShortText, DepthAllowed, PlainRead}
use Rattle.ledger.specs.Sessions.{SessionSays}
use Rattle.ledger.proofs.Sessions.{session_deep}
use Rattle.marked.specs.Images.{M10, brackets}
use Rattle.marked.specs.Sessions.{calls_deep, replies_deep}
use Rattle.marked.proofs.Images.{terminal_lacks_0}

-- The image is accepted.
passes : (header_test M10 ≡ true) × (words_test M10 ≡ true) × (every (nodes M10) (once_test M10) ≡ true)
unfolding M10 every header_test rule_test node_test words_test once_test edition rules nodes start rule_zero root rule_word fields_at
    node_word node_of roots children_below occurrences
passes = (refl, refl, refl)

formed : Question7 M10
unfolding M10 rules nodes root rule_word fields_at node_word node_of body
formed = record { every_node = go }
  where
    go : (n : ℕ) → n < 5 → WellFormed M10 (node M10 n)
    go zero l = wf_else (wf_then wf_terminal (λ h. absurd (terminal_lacks_0 h))) wf_empty
    go (suc zero) l = wf_then wf_terminal (λ h. absurd (terminal_lacks_0 h))
    go (suc (suc zero)) l = wf_terminal
    go (suc (suc (suc zero))) l = wf_call (wf_else (wf_then wf_terminal (λ h. absurd (terminal_lacks_0 h))) wf_empty)
    go (suc (suc (suc (suc zero)))) l = wf_empty
    go (suc (suc (suc (suc (suc n))))) l = absurd (omega arith)

pub m10_accepted : Checked M10 0
m10_accepted = checked (record { lawful = lawful_image M10 passes.0 passes.1 passes.2; well_formed = formed })

-- A bracket, and the end.
long : (k : ℕ) → length (brackets k) ≡ k
unfolding brackets
long k = length-replicate k 0x28

by_test : (k p : ℕ) {b : Bool} → has_at (accepts (Range 0x28 0x28)) (brackets k) p ≡ b → cond b (taken 1 1) not_taken ≡ terminal_at (Range 0x28 0x28) (brackets k) p
by_test k p e =
    sym
    (by_byte (Range 0x28 0x28) (brackets k) p (range_alone 0x28 0x28 (byte_at (brackets k) p))
    ∙ ap (λ (b : Bool). cond b (taken 1 1) not_taken) e)

here : (k p : ℕ) → p < k → taken 1 1 ≡ terminal_at (Range 0x28 0x28) (brackets k) p
unfolding accepts brackets
here k p h =
    by_test k p
    (has_there (accepts (Range 0x28 0x28)) (brackets k) p (let l = long k in omega arith)
    ∙ ap (accepts (Range 0x28 0x28)) (get_or-replicate k p 0x28 0 h))

at_end : (k : ℕ) → not_taken ≡ terminal_at (Range 0x28 0x28) (brackets k) k
at_end k = by_test k k (has_not (accepts (Range 0x28 0x28)) (brackets k) k (let l = long k in omega arith))

-- The evaluation where j brackets are left.
abbrev opening : ℕ → Evaluation
opening j = record { matched = true; length = j; examined = j + 1; nesting = 3 * (j + 1) }

longer : (j : ℕ) → suc j ≡ 1 + j
longer j = omega arith

further : (j : ℕ) → suc j + 1 ≡ max 1 (1 + (j + 1))
further j = omega arith

deeper : (j : ℕ) → 3 * (suc j + 1) ≡ 1 + (1 + max 1 (1 + 3 * (j + 1)))
deeper j = omega arith

bracketed : (k j p : ℕ) → p + j ≡ k → Fresh M10 (brackets k) (a_pair 0) p (opening j)
unfolding M10 rules root rule_word fields_at node_word node_of body
bracketed k zero p h =
    let e = subst (λ (q : ℕ). not_taken ≡ terminal_at (Range 0x28 0x28) (brackets k) q) (let d : k ≡ p = omega arith in d) (at_end k) in
    ev_body refl (ev_else_second (ev_then_first_fails (ev_terminal e) refl refl) refl (ev_empty refl) refl)
bracketed k (suc j) p h =
    let e = here k p (omega arith) in
    let rest = bracketed k j (p + 1) (omega arith) in
    ev_body refl
    (ev_else_first (ev_then (ev_terminal e) refl (ev_call rest refl) refl) refl
    (λ i. record { matched = true; length = longer j i; examined = further j i; nesting = deeper j i }))

module _ (k : ℕ) (short : k ≤ 65535) where
  start_value : Fresh M10 (brackets k) (a_pair (start M10)) 0 (opening k)
  unfolding M10 start
  start_value = bracketed k k 0 (omega arith)

  short_text : ShortText (brackets k)
  short_text = record { short = rw (long k) short }

  -- The plain reading's own questions.
  abbrev plain_questions : List Question
  plain_questions = record { number = 8; holds = ShortText (brackets k) } ∷ record { number = 14; holds = DepthAllowed M10 (brackets k) } ∷ []

  -- k brackets are read where 3 (k + 1) is at most 4,096,
  read_brackets :
      3 * (k + 1) ≤ 4096
      → PlainRead M10 (brackets k) (Ok (record { outcome = Outcome.Whole; length = k; examined = k + 1; nesting = 3 * (k + 1) }))
  read_brackets h =
      record {
        first =
            then_asked (of_image M10)
            plain_questions
            0
            (image_numbers M10)
            m10_accepted.first
            (inr (short_text, inr (record { value = opening k; evaluated = start_value; allowed = h }, refl)));
        values =
            record {
              value = opening k;
              evaluated = start_value;
              reports = record { outcome_is = (refl, sym (long k)); length_is = refl; examined_is = refl; nesting_is = refl };
            };
      }

  -- and refused with 14 where it is above.
  refuse_brackets : 4096 < 3 * (k + 1) → PlainRead M10 (brackets k) (Err Nesting)
  refuse_brackets h =
      record {
        first =
            then_asked (of_image M10)
            plain_questions
            14
            (image_numbers M10)
            m10_accepted.first
            (inr (
              short_text,
              inl (
                (λ d.
                    let same = ap (λ (x : Evaluation). x.nesting) (one M10 (brackets k) bodies_only d.evaluated start_value) in
                    omega (arith, d.allowed)),
                refl,
              ),
            ));
        values = λ e. record { value = opening k; evaluated = start_value; above = h };
      }

pub m10_read : PlainRead M10 (brackets 1364) (Ok (record { outcome = Outcome.Whole; length = 1364; examined = 1365; nesting = 4095 }))
m10_read = read_brackets 1364 (omega arith) (omega arith)

pub m10_refused : PlainRead M10 (brackets 1365) (Err Nesting)
m10_refused = refuse_brackets 1365 (omega arith) (omega arith)

pub deep_holds : SessionSays M10 (brackets 1365) 1365 calls_deep replies_deep
deep_holds =
    session_deep M10 (brackets 1365) 1365 (accepted m10_accepted) (omega arith) (let e = long 1365 in omega arith)
    (m10_refused.values refl) 1
