-- The table of characters, by its lines.
--     few_later    no character has more than three later bytes
--     its_line     a byte has the later bytes of the line that it is in
--     from_C2, from_E0 and so on: the same, line by line; below_C2, past_F4: no later bytes
-- Assumes nothing.
use Prim.Native.Nat.{ℕ, ◌+◌, ◌≤◌, ◌<◌, max}
use native.Mathlib.Omega.{arith}
use borrow.Author.Tests.{leb-true}
use mathlib.Core.Path.{◌≡◌, refl, ap, ◌∙◌}
use mathlib.Core.Bool.{Bool, true, false, ◌&&◌, cond}
use mathlib.Core.List.{List, [], ◌∷◌}
use lib.ListN.{length, drop}
use lib.Dec.{leb}
use Rattle.grammar.proofs.Bools.{both}
use Rattle.grammar.proofs.Between.{bounds, inside, outside}
use Rattle.grammar.specs.OneCharacter.{IsOne, here, further}
use Rattle.grammar.specs.Characters.{Octets, ◌to◌, is_in, Line, begins, tail, table, later_in, later_bytes}

-- The most later bytes of any line.
abbrev most_later : List Line → ℕ
most_later [] = 0
most_later (begins first later ∷ lines) = max (length later) (most_later lines)

most_later_lem : (lines : List Line) (byte : ℕ) → length (later_in lines byte) ≤ most_later lines
most_later_lem [] byte = omega arith
most_later_lem (begins first later ∷ lines) byte = go (is_in first byte) (most_later_lem lines byte)
  where
    go :
        (b : Bool) → length (later_in lines byte) ≤ most_later lines
        → length (cond b later (later_in lines byte)) ≤ max (length later) (most_later lines)
    go true l = omega arith
    go false l = omega arith

pub few_later : (byte : ℕ) → length (later_bytes byte) ≤ 3
unfolding later_bytes
few_later byte = most_later_lem table byte

-- The first bytes of these lines are from k on, each range above the one before.
abbrev ascend : (k : ℕ) → List Line → Bool
ascend k [] = true
ascend k (begins first later ∷ lines) =
    leb k first.lowest && (leb first.lowest first.highest && ascend (first.highest + 1) lines)

-- So a line's first bytes are,
from_on :
    {first : Octets} {later : List Octets} (k : ℕ) (lines : List Line)
    → ascend k lines ≡ true
    → IsOne (begins first later) lines
    → k ≤ first.lowest
from_on {first = first} {later = later} k [] e x = elim x [ ]
from_on k (begins first later ∷ lines) e here = leb-true k first.lowest (both _ _ e).0
from_on k (begins other later ∷ lines) e (further i) =
    let t = both _ _ e in
    let u = both _ _ t.1 in
    let a = leb-true k other.lowest t.0 in
    let b = leb-true other.lowest other.highest u.0 in
    let c = from_on (other.highest + 1) lines u.1 i in
    omega arith

-- a byte in one of them is in no other, and has its line's later bytes;
pub found :
    {first : Octets} {later : List Octets} (byte k : ℕ) (lines : List Line)
    → ascend k lines ≡ true
    → IsOne (begins first later) lines
    → is_in first byte ≡ true
    → later_in lines byte ≡ later
found {first = first} {later = later} byte k [] e x h = elim x [ ]
found byte k (begins first later ∷ lines) e here h = ap (λ (b : Bool). cond b later (later_in lines byte)) h
found {first} byte k (begins other later ∷ lines) e (further i) h =
    let t = both (leb k other.lowest) _ e in
    let u = both (leb other.lowest other.highest) _ t.1 in
    let c = from_on (other.highest + 1) lines u.1 i in
    let d = bounds first.lowest first.highest byte h in
    ap (λ (b : Bool). cond b later (later_in lines byte)) (outside other.lowest other.highest byte (λ a b. omega (arith, d.0)))
    ∙ found byte (other.highest + 1) lines u.1 i h

-- and a byte below all of them has none.
below : (byte k : ℕ) (lines : List Line) → ascend k lines ≡ true → byte < k → later_in lines byte ≡ []
below byte k [] e h = refl
below byte k (begins first later ∷ lines) e h =
    let t = both _ _ e in
    let u = both _ _ t.1 in
    let a = leb-true k first.lowest t.0 in
    let b = leb-true first.lowest first.highest u.0 in
    ap (λ (b : Bool). cond b later (later_in lines byte)) (outside first.lowest first.highest byte (λ c d. omega arith))
    ∙ below byte (first.highest + 1) lines u.1 (omega arith)

either_way : (b : Bool) (x : List Octets) → cond b x x ≡ x
either_way true x = refl
either_way false x = refl

-- The table's lines do ascend.
pub its_line :
    {first : Octets} {later : List Octets} (byte : ℕ) → IsOne (begins first later) table → is_in first byte ≡ true
    → later_bytes byte ≡ later
unfolding later_bytes
its_line byte line h = found byte 0 table refl line h

-- The lines of more than one byte, by their lowest first byte.
module _ (byte : ℕ) where
  pub from_C2 : 0xC2 ≤ byte → byte ≤ 0xDF → later_bytes byte ≡ tail ∷ []
  from_C2 h k = its_line byte (further here) (inside 0xC2 0xDF byte h k)

  pub from_E0 : 0xE0 ≤ byte → byte ≤ 0xE0 → later_bytes byte ≡ (0xA0 to 0xBF) ∷ tail ∷ []
  from_E0 h k = its_line byte (further (further here)) (inside 0xE0 0xE0 byte h k)

  pub from_E1 : 0xE1 ≤ byte → byte ≤ 0xEC → later_bytes byte ≡ tail ∷ tail ∷ []
  from_E1 h k = its_line byte (further (further (further here))) (inside 0xE1 0xEC byte h k)

  pub from_ED : 0xED ≤ byte → byte ≤ 0xED → later_bytes byte ≡ (0x80 to 0x9F) ∷ tail ∷ []
  from_ED h k = its_line byte (further (further (further (further here)))) (inside 0xED 0xED byte h k)

  pub from_EE : 0xEE ≤ byte → byte ≤ 0xEF → later_bytes byte ≡ tail ∷ tail ∷ []
  from_EE h k = its_line byte (further (further (further (further (further here))))) (inside 0xEE 0xEF byte h k)

  pub from_F0 : 0xF0 ≤ byte → byte ≤ 0xF0 → later_bytes byte ≡ (0x90 to 0xBF) ∷ tail ∷ tail ∷ []
  from_F0 h k = its_line byte (further (further (further (further (further (further here)))))) (inside 0xF0 0xF0 byte h k)

  pub from_F1 : 0xF1 ≤ byte → byte ≤ 0xF3 → later_bytes byte ≡ tail ∷ tail ∷ tail ∷ []
  from_F1 h k = its_line byte (further (further (further (further (further (further (further here))))))) (inside 0xF1 0xF3 byte h k)

  pub from_F4 : 0xF4 ≤ byte → byte ≤ 0xF4 → later_bytes byte ≡ (0x80 to 0x8F) ∷ tail ∷ tail ∷ []
  from_F4 h k =
      its_line byte (further (further (further (further (further (further (further (further here)))))))) (inside 0xF4 0xF4 byte h k)

  -- A byte below them is ASCII, which has a line and no later bytes, or in no line.
  pub below_C2 : byte < 0xC2 → later_bytes byte ≡ []
  unfolding later_bytes
  below_C2 h =
      ap (λ (later : List Octets). cond (is_in (0x00 to 0x7F) byte) [] later) (below byte 0xC2 (drop 1 table) refl h)
      ∙ either_way (is_in (0x00 to 0x7F) byte) []

  -- A byte above them is in no line.
  pub past_F4 : 0xF4 < byte → later_bytes byte ≡ []
  unfolding later_bytes
  past_F4 h =
      simp (
        outside 0x00 0x7F byte (λ a b. omega arith),
        outside 0xC2 0xDF byte (λ a b. omega arith),
        outside 0xE0 0xE0 byte (λ a b. omega arith),
        outside 0xE1 0xEC byte (λ a b. omega arith),
        outside 0xED 0xED byte (λ a b. omega arith),
        outside 0xEE 0xEF byte (λ a b. omega arith),
        outside 0xF0 0xF0 byte (λ a b. omega arith),
        outside 0xF1 0xF3 byte (λ a b. omega arith),
        outside 0xF4 0xF4 byte (λ a b. omega arith),
      )
