-- What a field of a line means: a decimal number below 2^64, or bytes as pairs of hexadecimal digits.
use Rattle.std.specs.Prelude.{ℕ, zero, suc, ◌+◌, ◌*◌, ◌-◌, ◌≤◌, ◌<◌, ◌^◌, ◌/◌, ◌%◌, ◌≡◌, ◌≢◌, ◌⊎◌, cond, List, [], ◌∷◌, ◌++◌, length}
use Rattle.std.specs.Prelude.{get_or, ltb, Option, Some, None, Result, Ok, Err}
use Rattle.buffers.specs.Filled.{Filled}
use Rattle.fields.specs.declared.HexError.{HexError}
use Rattle.fields.specs.declared.HexError.TheVariants.{TooLong, NotHex}

-- The first field has no space, and the rest is what stands behind the one that ends it, nothing where the line has none.
abbrev pub FieldOf : (line field rest : List ℕ) → Type 0
FieldOf line field rest =
    ((k : ℕ) → k < length field → get_or field k 0 ≢ 32)
    × ((line ≡ field ++ 32 ∷ rest) ⊎ ((line ≡ field) × (rest ≡ [])))

-- "0" to "9" in ASCII.
abbrev pub Digit : ℕ → Type 0
Digit b = (48 ≤ b) × (b ≤ 57)

-- The bytes of a field before an index are digits.
abbrev pub DigitsTo : List ℕ → ℕ → Type 0
DigitsTo s i = (j : ℕ) → j < i → Digit (get_or s j 0)

-- The number that the bytes before an index are, as decimal digits.
abbrev pub value_to : List ℕ → ℕ → ℕ
value_to s zero = 0
value_to s (suc i) = value_to s i * 10 + (get_or s i 0 - 48)

-- A field is a number: it has digits and nothing else, and the number is below 2^64.
abbrev pub IsNumber : List ℕ → Type 0
IsNumber s = (0 < length s) × DigitsTo s (length s) × (value_to s (length s) < 2 ^ 64)

-- A number is given exactly for a field that is one, and it is that number.
abbrev pub DecimalOf : List ℕ → Option ℕ → Type 0
DecimalOf s (Some v) = IsNumber s × (v ≡ value_to s (length s))
DecimalOf s None = IsNumber s → ⊥

-- The value of a hexadecimal digit in either case, 16 for any other byte.
abbrev pub hex_value : ℕ → ℕ
hex_value b =
    cond (ltb b 48) 16
    (cond (ltb b 58) (b - 48)
    (cond (ltb b 65) 16
    (cond (ltb b 71) (b - 55)
    (cond (ltb b 97) 16
    (cond (ltb b 103) (b - 87) 16)))))

-- The byte of the pair of digits j.
abbrev pub byte_at : List ℕ → ℕ → ℕ
byte_at s j = hex_value (get_or s (2 * j) 0) * 16 + hex_value (get_or s (2 * j + 1) 0)

-- A field is bytes: pairs of hexadecimal digits and nothing else.
abbrev pub IsHex : List ℕ → Type 0
IsHex s = (length s % 2 ≡ 0) × ((j : ℕ) → j < length s → hex_value (get_or s j 0) < 16)

-- Bytes are given exactly for a field that is bytes and fits, and they are at the start of what was lent.
abbrev pub HexOf : (s old new : List ℕ) → Result ℕ HexError → Type 0
HexOf s old new (Ok n) = (2 * n ≡ length s) × (n ≤ length old) × IsHex s × Filled (byte_at s) old new 0 n
HexOf s old new (Err TooLong) = length old < length s / 2
HexOf s old new (Err NotHex) = IsHex s → ⊥
