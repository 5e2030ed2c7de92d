-- What a character is, and how much of a text "any" looks at: R-5's sentences, without the steps by which `terminal_at` goes. That it
-- keeps them is proved in proofs/OneCharacter.antt.
use Rattle.std.specs.Prelude.{ℕ, ◌+◌, ◌≤◌, ◌<◌, ◌≡◌, true, List, [], ◌∷◌, ◌++◌, length, take}
use Rattle.grammar.specs.declared.Evaluation.{Evaluation}
use Rattle.grammar.specs.Characters.{Octets, is_in, Line, begins, table}

-- A line is one of these.
pub data IsOne (line : Line) : List Line → Type 0 where
  here : {lines : List Line} → IsOne line (line ∷ lines)
  further : {other : Line} {lines : List Line} → IsOne line lines → IsOne line (other ∷ lines)

-- The bytes are as many as the ranges, each in its own.
pub data Fit : List Octets → List ℕ → Type 0 where
  none_left : Fit [] []
  one_more :
      {octets : Octets} {ranges : List Octets} {byte : ℕ} {bytes : List ℕ}
      → is_in octets byte ≡ true
      → Fit ranges bytes
      → Fit (octets ∷ ranges) (byte ∷ bytes)

-- "one character as RFC 3629 defines it" (02, R-5): the bytes of one line of its table.
pub data LawfulCharacter (bytes : List ℕ) : Type 0 where
  lawful : {first : Octets} {later : List Octets} → IsOne (begins first later) table → Fit (first ∷ later) bytes → LawfulCharacter bytes

-- A lawful character begins with these bytes.
pub record Begins (bytes : List ℕ) : Type 0 where
  pub rest : List ℕ
  pub whole : LawfulCharacter (bytes ++ rest)

-- "Bytes are looked at from the first until the character is complete or one, or the end, can't continue it" (02, R-5): with j looked at,
-- the end counted as one more than the bytes.
pub data Stops (bytes : List ℕ) (j : ℕ) : Type 0 where
  complete : LawfulCharacter (take j bytes) → Stops bytes j
  breaks_off : (Begins (take j bytes) → ⊥) → Stops bytes j
  at_end : j ≡ length bytes + 1 → Stops bytes j

-- What "any" gives at a position before the end, by the bytes from there on. "examined counts these": the first j, of 1 or more, at
-- which it stops. A lawful character matches whole; "A byte that begins no lawful character matches alone, with length 1." (02, R-5)
-- No two evaluations that differ in outcome, length or examined keep this (`only_one`).
pub record OneCharacter (bytes : List ℕ) (x : Evaluation) : Type 0 where
  pub matches : x.matched ≡ true
  pub stops : Stops bytes x.examined
  pub not_before : (j : ℕ) → 1 ≤ j → j < x.examined → Stops bytes j → ⊥
  pub whole : LawfulCharacter (take x.examined bytes) → x.length ≡ x.examined
  pub alone : (LawfulCharacter (take x.examined bytes) → ⊥) → x.length ≡ 1
