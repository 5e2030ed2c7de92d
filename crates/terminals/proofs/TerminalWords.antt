-- The words of a terminal that matches and of one that fails. Assumes nothing.
use Prim.Native.Nat.{ℕ, ◌≤◌, ◌<◌}
use native.Mathlib.Omega.{arith}
use Rattle.std.specs.Prelude.{Option, Some, None, MatchOption, slice_get}
use Rattle.std.proofs.Common.{inl, inr}
use Rattle.std.proofs.lemmas.Option.{slice_get_cases, slice_get_within, get_or_from_slice_get}
use mathlib.Core.Path.{◌≡◌, refl, sym, ap, ◌∙◌}
use mathlib.Core.Bool.{Bool, false, cond}
use mathlib.Core.List.{List, []}
use lib.ListN.{length}
use Rattle.grammar.specs.declared.node.Terminal.{Terminal}
use Rattle.grammar.specs.Image.{byte_at}
use Rattle.grammar.specs.Terminal.{accepts, later_of, has_at, taken, continued, not_taken, terminal_at}
use Rattle.grammar.proofs.Terminals.{has_not, has_there, by_byte}
use Rattle.records.specs.Words.{word_of}

-- What the one read of the text's byte says: there is none at the end, and else it is the text's.
module _ (text : List ℕ) (at : ℕ) where
  pub none_there : slice_get text at ≡ None → length text ≤ at
  none_there e = elim (slice_get_cases text at).1 [ inl w ↦ absurd (let z : ◌≡◌ {A = ℕ} 0 1 = cc (e, w.3) in omega arith) | inr w ↦ w.0 ]

  pub byte_there : {byte : ℕ} → slice_get text at ≡ Some byte → (at < length text) × (byte ≡ byte_at text at)
  byte_there {byte} e = (slice_get_within text at byte e, sym (get_or_from_slice_get text at byte 0 e))

-- A test of the byte that is read, which fails where there is none, is the test of the text's byte. `Gave` is what the read byte's test
-- is known to have given.
pub tested :
    (test : ℕ → Bool) (text : List ℕ) (at : ℕ) {has : Bool} {Gave : ℕ → Type 0}
    → ((byte : ℕ) → Gave byte → has ≡ test byte)
    → MatchOption (slice_get text at) (has ≡ false) Gave
    → has ≡ has_at test text at
tested test text at {has} {Gave} is m = go (slice_get text at) refl m
  where
    go : (read : Option ℕ) → slice_get text at ≡ read → MatchOption read (has ≡ false) Gave → has ≡ has_at test text at
    go None e m = m ∙ sym (has_not test text at (none_there text at e))
    go (Some byte) e m =
        let there = byte_there text at e in
        is byte m ∙ ap test there.1 ∙ sym (has_there test text at there.0)

module _ (t : Terminal) (text : List ℕ) (p : ℕ) where
  -- By the test of the first byte.
  pub by_first_test :
      {b : Bool} → has_at (accepts t) text p ≡ b
      → terminal_at t text p ≡ cond b (continued (later_of t (byte_at text p)) text p 1) not_taken
  unfolding terminal_at
  by_first_test e = ap (λ (b : Bool). cond b (continued (later_of t (byte_at text p)) text p 1) not_taken) e

  -- The word of one that has no later bytes, by the test of its byte, and the word at the end.
  pub byte_word :
      {has : Bool} {word : ℕ}
      → later_of t (byte_at text p) ≡ []
      → has ≡ has_at (accepts t) text p
      → word ≡ word_of (cond has (taken 1 1) not_taken)
      → word ≡ word_of (terminal_at t text p)
  byte_word none e w = w ∙ ap (λ (b : Bool). word_of (cond b (taken 1 1) not_taken)) e ∙ sym (ap word_of (by_byte t text p none))

  pub end_word : length text ≤ p → 0x8000_0002_0001_0000 ≡ word_of (terminal_at t text p)
  unfolding word_of
  end_word h = sym (ap word_of (by_first_test (has_not (accepts t) text p h)))
