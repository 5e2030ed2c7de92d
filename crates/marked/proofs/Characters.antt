-- Characters: what `dot` reads, by computation. Assumes nothing.
use Rattle.std.specs.Prelude.{Ok}
use Prim.Native.Nat.{ℕ, ◌≤◌, ◌<◌}
use native.Mathlib.Omega.{arith}
use mathlib.Core.Path.{◌≡◌, refl}
use mathlib.Core.List.{List, [], ◌∷◌}
use mathlib.Core.Logic.{inr}
use lib.ListN.{length}
use Rattle.grammar.specs.declared.Evaluation.{Evaluation}
use Rattle.grammar.specs.declared.node.Terminal.TheVariants.{Any}
use Rattle.grammar.specs.Image.{rules, start, root, rule_word, node_word, fields_at, node_of, body}
use Rattle.grammar.specs.Characters.{later_bytes}
use Rattle.grammar.specs.Terminal.{accepts, later_of, taken, not_taken, terminal_at}
use Rattle.grammar.specs.Evaluates.{Fresh, a_pair, ev_terminal, ev_body}
use Rattle.grammar.specs.Questions.{of_image}
use Rattle.grammar.proofs.First.{then_asked, image_numbers}
use Rattle.reading.specs.declared.plain.Outcome.{Outcome}
use Rattle.reading.specs.declared.plain.Reading.{Reading}
use Rattle.reading.specs.Plain.{Reports, ShortText, DepthAllowed, PlainRead}
use Rattle.marked.specs.Images.{dot}
use Rattle.marked.specs.Cases.{Says, Hold, any_reads, complete, broken}
use Rattle.marked.proofs.Images.{dot_accepted}

-- A plain reading of `dot` reports what "any" does at the start.
module _ (text : List ℕ) (short : length text ≤ 65535) (z : Evaluation) (is : z ≡ terminal_at Any text 0) (flat : z.nesting ≡ 1) where
  start_value : Fresh dot text (a_pair (start dot)) 0 z
  unfolding dot rules start root rule_word fields_at node_word node_of body
  start_value = ev_body refl (ev_terminal is)

  pub reads : {x : Reading} → Reports (length text) z x → PlainRead dot text (Ok x)
  reads reports =
      record {
        first =
            then_asked (of_image dot)
            (record { number = 8; holds = ShortText text } ∷ record { number = 14; holds = DepthAllowed dot text } ∷ [])
            0
            (image_numbers dot)
            dot_accepted.first
            (inr (record { short = short }, inr (record { value = z; evaluated = start_value; allowed = omega (arith, flat) }, refl)));
        values = record { value = z; evaluated = start_value; reports = reports };
      }

module _ (text : List ℕ) (bytes looked : ℕ) (short : length text ≤ 65535) (is : taken bytes looked ≡ terminal_at Any text 0) where
  whole : bytes ≡ length text → Says (any_reads text Outcome.Whole bytes looked)
  whole all =
      reads text short (taken bytes looked) is refl (record { outcome_is = (refl, all); length_is = refl; examined_is = refl; nesting_is = refl })

  part : bytes < length text → Says (any_reads text Outcome.Part bytes looked)
  part some =
      reads text short (taken bytes looked) is refl (record { outcome_is = (refl, some); length_is = refl; examined_is = refl; nesting_is = refl })

none : Says (any_reads [] Outcome.Nothing 0 1)
unfolding terminal_at
none = reads [] (omega arith) not_taken refl refl (record { outcome_is = refl; length_is = refl; examined_is = refl; nesting_is = refl })

-- Line by line.
infixr 10 ◌and◌
abbrev ◌and◌ : {A B : Type 0} → A → B → A × B
a and b = (a, b)

pub complete_holds : Hold complete
unfolding terminal_at accepts later_of later_bytes
complete_holds =
    whole _ _ _ (omega arith) refl refl
    and whole _ _ _ (omega arith) refl refl
    and whole _ _ _ (omega arith) refl refl
    and whole _ _ _ (omega arith) refl refl
    and whole _ _ _ (omega arith) refl refl
    and whole _ _ _ (omega arith) refl refl
    and whole _ _ _ (omega arith) refl refl
    and whole _ _ _ (omega arith) refl refl
    and whole _ _ _ (omega arith) refl refl
    and whole _ _ _ (omega arith) refl refl
    and whole _ _ _ (omega arith) refl refl
    and whole _ _ _ (omega arith) refl refl
    and whole _ _ _ (omega arith) refl refl
    and whole _ _ _ (omega arith) refl refl
    and whole _ _ _ (omega arith) refl refl
    and whole _ _ _ (omega arith) refl refl
    and whole _ _ _ (omega arith) refl refl
    and whole _ _ _ (omega arith) refl refl
    and tt

pub broken_holds : Hold broken
unfolding terminal_at accepts later_of later_bytes
broken_holds =
    part _ _ _ (omega arith) refl (omega arith)
    and part _ _ _ (omega arith) refl (omega arith)
    and part _ _ _ (omega arith) refl (omega arith)
    and part _ _ _ (omega arith) refl (omega arith)
    and part _ _ _ (omega arith) refl (omega arith)
    and whole _ _ _ (omega arith) refl refl
    and whole _ _ _ (omega arith) refl refl
    and whole _ _ _ (omega arith) refl refl
    and none
    and whole _ _ _ (omega arith) refl refl
    and part _ _ _ (omega arith) refl (omega arith)
    and part _ _ _ (omega arith) refl (omega arith)
    and part _ _ _ (omega arith) refl (omega arith)
    and part _ _ _ (omega arith) refl (omega arith)
    and part _ _ _ (omega arith) refl (omega arith)
    and part _ _ _ (omega arith) refl (omega arith)
    and part _ _ _ (omega arith) refl (omega arith)
    and part _ _ _ (omega arith) refl (omega arith)
    and part _ _ _ (omega arith) refl (omega arith)
    and part _ _ _ (omega arith) refl (omega arith)
    and part _ _ _ (omega arith) refl (omega arith)
    and whole _ _ _ (omega arith) refl refl
    and part _ _ _ (omega arith) refl (omega arith)
    and tt
