-- Characters as RFC 3629 defines them: its section 4 as a table, which document 02 leans on and does not contain.
use Rattle.std.specs.Prelude.{ℕ, Bool, cond, List, [], ◌∷◌}
use Rattle.grammar.specs.Between.{between}

-- The bytes from one to another.
pub record Octets : Type 0 where
  pub lowest : ℕ
  pub highest : ℕ

infix 40 ◌to◌
abbrev pub ◌to◌ : (lowest highest : ℕ) → Octets
a to b = record { lowest = a; highest = b }

abbrev pub is_in : Octets → ℕ → Bool
is_in octets byte = between octets.lowest octets.highest byte

-- A line of the table: the first bytes of its characters, and for each later byte those that it can be.
pub data Line : Type 0 where
  begins : (first : Octets) (later : List Octets) → Line

-- "UTF8-tail = %x80-BF" (RFC 3629)
abbrev pub tail : Octets
tail = 0x80 to 0xBF

-- "UTF8-char = UTF8-1 / UTF8-2 / UTF8-3 / UTF8-4
--  UTF8-1 = %x00-7F
--  UTF8-2 = %xC2-DF UTF8-tail
--  UTF8-3 = %xE0 %xA0-BF UTF8-tail / %xE1-EC 2( UTF8-tail ) / %xED %x80-9F UTF8-tail / %xEE-EF 2( UTF8-tail )
--  UTF8-4 = %xF0 %x90-BF 2( UTF8-tail ) / %xF1-F3 3( UTF8-tail ) / %xF4 %x80-8F 2( UTF8-tail )" (RFC 3629)
abbrev pub table : List Line
table =
    begins (0x00 to 0x7F) []
    ∷ begins (0xC2 to 0xDF) (tail ∷ [])
    ∷ begins (0xE0 to 0xE0) ((0xA0 to 0xBF) ∷ tail ∷ [])
    ∷ begins (0xE1 to 0xEC) (tail ∷ tail ∷ [])
    ∷ begins (0xED to 0xED) ((0x80 to 0x9F) ∷ tail ∷ [])
    ∷ begins (0xEE to 0xEF) (tail ∷ tail ∷ [])
    ∷ begins (0xF0 to 0xF0) ((0x90 to 0xBF) ∷ tail ∷ tail ∷ [])
    ∷ begins (0xF1 to 0xF3) (tail ∷ tail ∷ tail ∷ [])
    ∷ begins (0xF4 to 0xF4) ((0x80 to 0x8F) ∷ tail ∷ tail ∷ [])
    ∷ []

-- The later bytes, by the first: those of the line that it is in. A byte in no line has none: "An unlawful first byte has examined 1."
-- (02, R-5)
abbrev pub later_in : List Line → ℕ → List Octets
later_in [] byte = []
later_in (begins first later ∷ lines) byte = cond (is_in first byte) later (later_in lines byte)

unfoldable pub later_bytes : (first : ℕ) → List Octets
later_bytes first = later_in table first
