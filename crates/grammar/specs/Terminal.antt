-- Terminals: the nodes that look at the text itself, kinds 1 and 2. What a terminal does at a position stands behind one name,
-- `terminal_at`; the theorems use its laws (proofs/Terminals.antt) and not its definition.
use Rattle.std.specs.Prelude.{ℕ, ◌+◌, ◌-◌, Bool, true, false, ◌&&◌, ◌||◌, cond, List, [], ◌∷◌, length, ltb}
use Rattle.grammar.specs.declared.Evaluation.{Evaluation}
use Rattle.grammar.specs.declared.node.Terminal.{Terminal}
use Rattle.grammar.specs.declared.node.Terminal.TheVariants.{Any, Range, Folded}
use Rattle.grammar.specs.Image.{byte_at}
use Rattle.grammar.specs.Between.{between}
use Rattle.grammar.specs.Characters.{Octets, is_in, later_bytes}

-- The other ASCII case of a byte: 'A' to 'Z' (65 to 90) and 'a' to 'z' (97 to 122) stand 32 apart. A byte that is no letter has no
-- other case, and stands for itself.
unfoldable pub other_case : (byte : ℕ) → ℕ
other_case byte = cond (between 65 90 byte) (byte + 32) (cond (between 97 122 byte) (byte - 32) byte)

-- The first byte of a match. "Kind 1 now matches one character as RFC 3629 defines it, of 1 to 4 bytes. A byte that begins no lawful
-- character matches alone" (02, R-5): it may be any byte. "2 byte from A to B inclusive". "With it [the fold bit] set, a byte matches
-- if it or its other ASCII case is between A and B." (02, R-1)
unfoldable pub accepts : Terminal → ℕ → Bool
accepts Any byte = true
accepts (Range from to) byte = between from to byte
accepts (Folded from to) byte = between from to byte || between from to (other_case byte)

-- The later bytes of a match, by its first: those of a character in kind 1, none in kind 2, which is one byte.
unfoldable pub later_of : Terminal → (first : ℕ) → List Octets
later_of Any first = later_bytes first
later_of (Range from to) first = []
later_of (Folded from to) first = []

-- There is a byte at that place of the text, before its end, and it passes a test.
abbrev pub has_at : (test : ℕ → Bool) (text : List ℕ) (place : ℕ) → Bool
has_at test text place = ltb place (length text) && test (byte_at text place)

-- A match of so many bytes, after so many were looked at. Nothing is evaluated inside: nesting 1.
abbrev pub taken : (bytes looked : ℕ) → Evaluation
taken bytes looked = record { matched = true; length = bytes; examined = looked; nesting = 1 }

-- A first byte that "matches alone, with length 1" (02, R-5) after a byte, or the end, broke its character off: that was looked at too.
abbrev pub alone : (looked : ℕ) → Evaluation
alone looked = taken 1 (looked + 1)

-- "Bytes are looked at from the first until the character is complete or one, or the end, can't continue it; examined counts these."
-- (02, R-5) The `looked` bytes from p on are its beginning, and `later` are those to come. Where none are to come it is complete, and
-- all of them are taken.
abbrev pub continued : (later : List Octets) (text : List ℕ) (p looked : ℕ) → Evaluation
continued [] text p looked = taken looked looked
continued (next ∷ later) text p looked =
    cond (has_at (is_in next) text (p + looked)) (continued later text p (looked + 1)) (alone looked)

-- "Kinds 1 and 2: examined 1, also at the end, where they fail". "At the end it fails with examined 1." (02, R-5) So does a range with
-- a byte that it does not take.
abbrev pub not_taken : Evaluation
not_taken = record { matched = false; length = 0; examined = 1; nesting = 1 }

-- What a terminal does at a position of a text. "A text has n bytes, positions 0 to n; position n is the end." Kind 2, which has no
-- later bytes: "a match has length 1", "Examined length is still 1" (02, R-1, of the fold bit).
unfoldable pub terminal_at : Terminal → List ℕ → ℕ → Evaluation
terminal_at t text p = cond (has_at (accepts t) text p) (continued (later_of t (byte_at text p)) text p 1) not_taken
