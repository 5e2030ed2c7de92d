-- Outcome sets as numbers: which outcomes a packed set has, and how a union grows. Assumes nothing.
use Prim.Native.Nat.{ℕ, zero, suc, ◌+◌, ◌≤◌, ◌<◌}
use native.Mathlib.Omega.{arith}
use mathlib.Core.Path.{◌≡◌, refl}
use mathlib.Core.Bool.{Bool, true, false, ◌||◌}
use mir.Val.{bool_byte}
use Rattle.grammar.specs.Outcomes.{Outcome, matches_empty, consumes, fails}
use Rattle.grammar.proofs.Bools.{byte_small}
use Rattle.rounds.specs.Sets.{bit, pack, union}

-- Of three bools, the one that tells of an outcome.
abbrev pub told : Outcome → Bool → Bool → Bool → Bool
told matches_empty stay consume fail = stay
told consumes stay consume fail = consume
told fails stay consume fail = fail

-- A packed set has just the outcomes that it was told.
pub bit-pack : (o : Outcome) (z c f : Bool) → bit o (pack z c f) ≡ told o z c f
unfolding bit pack
bit-pack matches_empty true true true = refl
bit-pack matches_empty true true false = refl
bit-pack matches_empty true false true = refl
bit-pack matches_empty true false false = refl
bit-pack matches_empty false true true = refl
bit-pack matches_empty false true false = refl
bit-pack matches_empty false false true = refl
bit-pack matches_empty false false false = refl
bit-pack consumes true true true = refl
bit-pack consumes true true false = refl
bit-pack consumes true false true = refl
bit-pack consumes true false false = refl
bit-pack consumes false true true = refl
bit-pack consumes false true false = refl
bit-pack consumes false false true = refl
bit-pack consumes false false false = refl
bit-pack fails true true true = refl
bit-pack fails true true false = refl
bit-pack fails true false true = refl
bit-pack fails true false false = refl
bit-pack fails false true true = refl
bit-pack fails false true false = refl
bit-pack fails false false true = refl
bit-pack fails false false false = refl

-- A number below 8 is the set of its own outcomes.
pub repack : (x : ℕ) → x < 8 → pack (bit matches_empty x) (bit consumes x) (bit fails x) ≡ x
unfolding bit pack
repack zero h = refl
repack (suc zero) h = refl
repack (suc (suc zero)) h = refl
repack (suc (suc (suc zero))) h = refl
repack (suc (suc (suc (suc zero)))) h = refl
repack (suc (suc (suc (suc (suc zero))))) h = refl
repack (suc (suc (suc (suc (suc (suc zero)))))) h = refl
repack (suc (suc (suc (suc (suc (suc (suc zero))))))) h = refl
repack (suc (suc (suc (suc (suc (suc (suc (suc x)))))))) h = absurd (omega arith)

byte_or : (a b : Bool) → bool_byte a ≤ bool_byte (a || b)
byte_or true b = omega arith
byte_or false b = omega arith

pub pack_small : (z c f : Bool) → pack z c f < 8
unfolding pack
pack_small z c f = omega (arith, byte_small z, byte_small c, byte_small f)

pub bit-union : (o : Outcome) (a b : ℕ) → bit o (union a b) ≡ (bit o a || bit o b)
unfolding union
bit-union matches_empty a b = bit-pack matches_empty _ _ _
bit-union consumes a b = bit-pack consumes _ _ _
bit-union fails a b = bit-pack fails _ _ _

pub union_small : (a b : ℕ) → union a b < 8
unfolding union
union_small a b = pack_small _ _ _

-- The number of outcomes in a set.
unfoldable pub size : ℕ → ℕ
size set = bool_byte (bit matches_empty set) + bool_byte (bit consumes set) + bool_byte (bit fails set)

pub size_most : (set : ℕ) → size set ≤ 3
unfolding size
size_most set = omega (arith, byte_small (bit matches_empty set), byte_small (bit consumes set), byte_small (bit fails set))

-- A union that is not its first part has more outcomes.
pub union_larger : (a b : ℕ) → a < 8 → (union a b ≡ a → ⊥) → size a < size (union a b)
union_larger a b h different =
    let z = byte_or (bit matches_empty a) (bit matches_empty b) in
    let c = byte_or (bit consumes a) (bit consumes b) in
    let f = byte_or (bit fails a) (bit fails b) in
    let e = repack a h in
    unfold size pack union in (
    rw (bit-union matches_empty a b, bit-union consumes a b, bit-union fails a b) (omega (arith, different))
    )
