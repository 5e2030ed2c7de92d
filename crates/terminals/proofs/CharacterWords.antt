-- The words of a character that is complete, and of one that breaks off. Assumes nothing.
use Prim.Native.Nat.{ℕ, zero, suc, ◌+◌, ◌-◌, ◌≤◌, ◌<◌}
use native.Mathlib.Omega.{arith}
use mathlib.Core.Path.{◌≡◌, refl, sym, ap, ◌∙◌}
use mathlib.Core.Bool.{Bool, true, false, cond}
use mathlib.Core.List.{List, [], ◌∷◌}
use lib.ListN.{length, replicate}
use Rattle.grammar.specs.declared.Evaluation.{Evaluation}
use Rattle.grammar.specs.declared.node.Terminal.TheVariants.{Any}
use Rattle.grammar.specs.Image.{byte_at}
use Rattle.grammar.specs.Characters.{Octets, ◌to◌, is_in, tail, later_bytes}
use Rattle.grammar.specs.Terminal.{accepts, later_of, has_at, taken, alone, continued, terminal_at}
use Rattle.grammar.proofs.Between.{bounds}
use Rattle.grammar.proofs.Characters.{below_C2}
use Rattle.grammar.proofs.Terminals.{has_there, has_in_text}
use Rattle.records.specs.Words.{word_of}
use Rattle.terminals.proofs.TerminalWords.{by_first_test}

-- After a byte that continues it, and after one that does not, or the end.
module _ (text : List ℕ) (p looked : ℕ) (next : Octets) (rest : List Octets) where
  goes_on : has_at (is_in next) text (p + looked) ≡ true → continued (next ∷ rest) text p looked ≡ continued rest text p (looked + 1)
  goes_on e = ap (λ (b : Bool). cond b (continued rest text p (looked + 1)) (alone looked)) e

  breaks_off : has_at (is_in next) text (p + looked) ≡ false → continued (next ∷ rest) text p looked ≡ alone looked
  breaks_off e = ap (λ (b : Bool). cond b (continued rest text p (looked + 1)) (alone looked)) e

-- A byte with no later bytes.
pub one_byte : (text : List ℕ) (p : ℕ) → 0xC000_0002_0001_0001 ≡ word_of (continued [] text p 1)
unfolding word_of
one_byte text p = refl

tails : (k : ℕ) → 1 ≤ k → replicate k tail ≡ tail ∷ replicate (k - 1) tail
tails zero h = absurd (omega arith)
tails (suc k) h = ap (λ (j : ℕ). tail ∷ replicate j tail) (let e : k ≡ suc k - 1 = omega arith in e)

-- A character of which `later` bytes are to follow the first: the second byte as told, the others of 0x80 to 0xBF.
module _ (text : List ℕ) (p later : ℕ) (second : Octets) where
  abbrev from_first : Evaluation
  from_first = continued (second ∷ replicate (later - 1) tail) text p 1

  abbrev Second : Bool → Type 0
  Second b = has_at (is_in second) text (p + 1) ≡ b

  abbrev Third : Bool → Type 0
  Third b = has_at (is_in tail) text (p + 2) ≡ b

  abbrev Fourth : Bool → Type 0
  Fourth b = has_at (is_in tail) text (p + 3) ≡ b

  after_second : {k : ℕ} → later ≡ k → Second true → from_first ≡ continued (replicate (k - 1) tail) text p 2
  after_second l e =
      goes_on text p 1 second (replicate (later - 1) tail) e ∙ ap (λ (k : ℕ). continued (replicate (k - 1) tail) text p 2) l

  pub one_of_two : Second false → 0xC000_0002_0002_0001 ≡ word_of from_first
  unfolding word_of
  one_of_two e = sym (ap word_of (breaks_off text p 1 second (replicate (later - 1) tail) e))

  pub two_bytes : later ≡ 1 → Second true → 0xC000_0002_0002_0002 ≡ word_of from_first
  unfolding word_of
  two_bytes l e = sym (ap word_of (after_second l e))

  pub one_of_three : 2 ≤ later → Second true → Third false → 0xC000_0002_0003_0001 ≡ word_of from_first
  unfolding word_of
  one_of_three l e f =
      sym
      (ap word_of
      (after_second refl e
      ∙ ap (λ (rest : List Octets). continued rest text p 2) (tails (later - 1) (omega arith))
      ∙ breaks_off text p 2 tail (replicate (later - 1 - 1) tail) f))

  pub three_bytes : later ≡ 2 → Second true → Third true → 0xC000_0002_0003_0003 ≡ word_of from_first
  unfolding word_of
  three_bytes l e f = sym (ap word_of (after_second l e ∙ goes_on text p 2 tail [] f))

  pub one_of_four : later ≡ 3 → Second true → Third true → Fourth false → 0xC000_0002_0004_0001 ≡ word_of from_first
  unfolding word_of
  one_of_four l e f g = sym (ap word_of (after_second l e ∙ goes_on text p 2 tail (tail ∷ []) f ∙ breaks_off text p 3 tail [] g))

  pub four_bytes : later ≡ 3 → Second true → Third true → Fourth true → 0xC000_0002_0004_0004 ≡ word_of from_first
  unfolding word_of
  four_bytes l e f g = sym (ap word_of (after_second l e ∙ goes_on text p 2 tail (tail ∷ []) f ∙ goes_on text p 3 tail [] g))

-- "any" takes the first byte, whatever it is, and goes on by its later bytes.
pub goes_by_first : (text : List ℕ) (p : ℕ) → p < length text → terminal_at Any text p ≡ continued (later_bytes (byte_at text p)) text p 1
unfolding accepts later_of
goes_by_first text p h = by_first_test Any text p (has_there (accepts Any) text p h)

-- An ASCII byte is a character of one byte.
pub ascii_taken : (text : List ℕ) (p : ℕ) → has_at (is_in (0x00 to 0x7F)) text p ≡ true → terminal_at Any text p ≡ taken 1 1
ascii_taken text p e =
    let h = has_in_text (is_in (0x00 to 0x7F)) text p e in
    let byte = byte_at text p in
    goes_by_first text p h
    ∙ ap (λ (later : List Octets). continued later text p 1)
    (below_C2 byte (omega (arith, bounds 0x00 0x7F byte (sym (has_there (is_in (0x00 to 0x7F)) text p h) ∙ e))))

pub ascii_word :
    (text : List ℕ) (p : ℕ) → has_at (is_in (0x00 to 0x7F)) text p ≡ true → 0xC000_0002_0001_0001 ≡ word_of (terminal_at Any text p)
unfolding word_of
ascii_word text p e = sym (ap word_of (ascii_taken text p e))
