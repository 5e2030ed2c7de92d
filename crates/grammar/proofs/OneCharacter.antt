-- "any" takes one character as RFC 3629 defines it, and looks at the bytes that R-5 (document 02) says: specs/OneCharacter.antt.
--     one_character    at every position before the end of a text, "any" keeps every sentence of `OneCharacter`
--     lawful_taken     a lawful character is taken whole, whatever stands before and after it
--     only_one         `OneCharacter` fixes outcome, length and examined
-- Assumes nothing.
use Prim.Native.Nat.{ℕ, suc, ◌+◌, ◌≤◌, ◌<◌}
use native.Mathlib.Omega.{arith}
use native.Mathlib.Nat.{zero-add}
use borrow.Author.Tests.{ltb-true, ltb-false, eqb-true, eqb-false}
use mathlib.Core.Path.{◌≡◌, refl, ap, ap₂, ◌∙◌, sym, subst}
use mathlib.Core.Bool.{Bool, true, false, cond, true≢false}
use mathlib.Core.List.{List, [], ◌∷◌, ◌++◌, append-nil}
use lib.ListN.{length, take, drop, length-append, length-drop, take-append-drop}
use lib.Dec.{ltb, eqb}
use lib.Seq.{take-suc, take_all, length-take-le, get_or-append_seam, append_snoc}
use Rattle.grammar.proofs.Characters.{its_line}
use Rattle.grammar.proofs.Terminals.{has_there, has_in_text, suffix}
use Rattle.grammar.specs.declared.Evaluation.{Evaluation}
use Rattle.grammar.specs.declared.node.Terminal.TheVariants.{Any}
use Rattle.grammar.specs.Image.{byte_at}
use Rattle.grammar.specs.Characters.{Octets, is_in, Line, begins, tail, table, later_in, later_bytes}
use Rattle.grammar.specs.Terminal.{accepts, later_of, has_at, taken, alone, continued, not_taken, terminal_at}
use Rattle.grammar.specs.OneCharacter.{IsOne, here, further, Fit, none_left, one_more, LawfulCharacter, lawful}
use Rattle.grammar.specs.OneCharacter.{Begins, Stops, complete, breaks_off, at_end, OneCharacter}

-- Bytes that fit are as many as the ranges.
as_many : {ranges : List Octets} {bytes : List ℕ} → Fit ranges bytes → length bytes ≡ length ranges
as_many none_left = refl
as_many (one_more h f) = ap suc (as_many f)

-- Bytes that fit, one list after the other.
joined_fit :
    {ranges more : List Octets} {bytes others : List ℕ} → Fit ranges bytes → Fit more others → Fit (ranges ++ more) (bytes ++ others)
joined_fit none_left g = g
joined_fit (one_more h f) g = one_more h (joined_fit f g)

-- A byte that stands after bytes that fit is in the next range.
next_fits :
    {ranges : List Octets} {bytes : List ℕ} (next : Octets) (more : List Octets) (byte : ℕ) (others : List ℕ)
    → Fit ranges bytes
    → Fit (ranges ++ next ∷ more) (bytes ++ byte ∷ others)
    → is_in next byte ≡ true
next_fits next more byte others none_left (one_more h g) = h
next_fits next more byte others (one_more i f) (one_more h g) = next_fits next more byte others f g

-- Some bytes fit.
data Filled : List Octets → Type 0 where
  filled : {ranges : List Octets} (bytes : List ℕ) → Fit ranges bytes → Filled ranges

-- The last of some ranges can be filled where all of them can.
filled_last : (ranges more : List Octets) → Filled (ranges ++ more) → Filled more
filled_last [] more f = f
filled_last (octets ∷ ranges) more (filled bytes (one_more h f)) = filled_last ranges more (filled _ f)

-- Every one of the lines has a property; so has one of them.
infixr 67 ◌and◌
data Every (P : Line → Type 0) : List Line → Type 0 where
  end : Every P []
  ◌and◌ : {line : Line} {lines : List Line} → P line → Every P lines → Every P (line ∷ lines)

the_one : (P : Line → Type 0) {line : Line} {lines : List Line} → Every P lines → IsOne line lines → P line
the_one P {line = line} end x = elim x [ ]
the_one P (p and every) here = p
the_one P (p and every) (further i) = the_one P every i

-- The later ranges of every line can be filled, by their lowest bytes.
abbrev Fillable : Line → Type 0
Fillable (begins first later) = Filled later

fillable : {first : Octets} {later : List Octets} → IsOne (begins first later) table → Filled later
fillable =
    the_one Fillable (none and one and two refl and two refl and two refl and two refl and three refl and three refl and three refl and end)
  where
    lowest : {octets : Octets} {ranges : List Octets} → is_in octets octets.lowest ≡ true → Filled ranges → Filled (octets ∷ ranges)
    lowest {octets} e (filled bytes f) = filled (octets.lowest ∷ bytes) (one_more e f)

    none : Filled []
    none = filled [] none_left

    one : Filled (tail ∷ [])
    one = lowest refl none

    two : {next : Octets} → is_in next next.lowest ≡ true → Filled (next ∷ tail ∷ [])
    two e = lowest e one

    three : {next : Octets} → is_in next next.lowest ≡ true → Filled (next ∷ tail ∷ tail ∷ [])
    three e = lowest e (two refl)

-- Bytes that begin in a line, and go on to a lawful character, go on in that line.
in_line :
    {first : Octets} {later done : List Octets} {bytes : List ℕ} (others : List ℕ)
    → IsOne (begins first later) table
    → Fit (first ∷ done) bytes
    → LawfulCharacter (bytes ++ others)
    → Fit (first ∷ later) (bytes ++ others)
in_line others line (one_more {byte = byte} {bytes = bytes} h f) (lawful other (one_more i g)) =
    one_more h (subst (λ ranges. Fit ranges (bytes ++ others)) (sym (its_line byte other i) ∙ its_line byte line h) g)

-- A byte is in none of the lines.
abbrev InNone : List Line → ℕ → Type 0
InNone lines byte = (first : Octets) (later : List Octets) → IsOne (begins first later) lines → is_in first byte ≡ true → ⊥

-- A byte's later bytes are those of a line that it is in, or it is in none, and has none.
data Found (lines : List Line) (byte : ℕ) (later : List Octets) : Type 0 where
  in_one : {first : Octets} → IsOne (begins first later) lines → is_in first byte ≡ true → Found lines byte later
  in_none : later ≡ [] → InNone lines byte → Found lines byte later

find : (lines : List Line) (byte : ℕ) → Found lines byte (later_in lines byte)
find [] byte = in_none refl (λ first later i e. elim i [ ])
find (begins first later ∷ lines) byte = go (is_in first byte) refl (find lines byte)
  where
    nor-here : is_in first byte ≡ false → InNone lines byte → InNone (begins first later ∷ lines) byte
    nor-here e n first later here h = true≢false (sym h ∙ e)
    nor-here e n first later (further i) h = n first later i h

    go :
        (b : Bool) → is_in first byte ≡ b → Found lines byte (later_in lines byte)
        → Found (begins first later ∷ lines) byte (cond b later (later_in lines byte))
    go true e rest = in_one here e
    go false e (in_one i h) = in_one (further i) h
    go false e (in_none z n) = in_none z (nor-here e n)

-- One byte more is looked at.
take_next :
    (text : List ℕ) (looked : ℕ) → 0 + looked < length text → take (looked + 1) text ≡ take looked text ++ (byte_at text (0 + looked) ∷ [])
take_next text looked l =
    ap (λ (k : ℕ). take k text) (let e : looked + 1 ≡ suc looked = omega arith in e)
    ∙ take-suc text looked 0 (omega arith)
    ∙ ap (λ (k : ℕ). take looked text ++ (byte_at text k ∷ [])) (sym (zero-add looked))

-- A lawful character, with nothing after it.
and_nothing : (bytes : List ℕ) → LawfulCharacter bytes → LawfulCharacter (bytes ++ [])
and_nothing bytes w = subst LawfulCharacter (sym (append-nil bytes)) w

-- It does not stop before k.
abbrev NotBefore : List ℕ → ℕ → Type 0
NotBefore text k = (j : ℕ) → 1 ≤ j → j < k → Stops text j → ⊥

-- The bytes looked at are the beginning of a character of a line that has a next byte.
module _
    (text : List ℕ) (looked : ℕ) {first : Octets} (done : List Octets) (next : Octets) (later : List Octets)
    (line : IsOne (begins first (done ++ next ∷ later)) table) (begun : Fit (first ∷ done) (take looked text))
    (in_text : looked ≤ length text) where
  -- It does not stop at them: they are not the whole, they can be completed, and the end was not looked at.
  not_yet : Stops text looked → ⊥
  not_yet (complete w) =
      let all = as_many (in_line [] line begun (and_nothing (take looked text) w)) in
      let some = as_many begun in
      let a = length-append (take looked text) [] in
      let b = length-append done (next ∷ later) in
      omega arith
  not_yet (breaks_off n) = go (filled_last done (next ∷ later) (fillable line))
    where
      go : Filled (next ∷ later) → ⊥
      go (filled rest g) = n (record { rest = rest; whole = lawful line (joined_fit begun g) })
  not_yet (at_end e) = omega arith

  -- So it does not stop before the next place.
  nowhere_yet : NotBefore text looked → NotBefore text (looked + 1)
  nowhere_yet earlier j h k s = go (ltb j looked) refl
    where
      go : (b : Bool) → ltb j looked ≡ b → ⊥
      go true m = earlier j h (ltb-true j looked m) s
      go false m = not_yet (subst (Stops text) (let i = ltb-false j looked m in omega arith) s)

  -- A byte in the next range continues the character,
  continues : has_at (is_in next) text (0 + looked) ≡ true → Fit (first ∷ (done ++ (next ∷ []))) (take (looked + 1) text)
  continues e =
      let h = has_in_text (is_in next) text (0 + looked) e in
      rw (take_next text looked h) (joined_fit begun (one_more (sym (has_there (is_in next) text (0 + looked) h) ∙ e) none_left))

  -- one that is not in it can't,
  breaks : 0 + looked < length text → has_at (is_in next) text (0 + looked) ≡ false → Begins (take (looked + 1) text) → ⊥
  breaks h e b =
      let byte = byte_at text (0 + looked) in
      let same = ap (λ (bytes : List ℕ). bytes ++ b.rest) (take_next text looked h) ∙ append_snoc (take looked text) byte b.rest in
      let fit = in_line (byte ∷ b.rest) line begun (subst LawfulCharacter same b.whole) in
      true≢false (sym (next_fits next later byte b.rest begun fit) ∙ sym (has_there (is_in next) text (0 + looked) h) ∙ e)

  -- and where nothing continues it, at the end too, the first byte is taken alone.
  broken : NotBefore text looked → has_at (is_in next) text (0 + looked) ≡ false → OneCharacter text (alone looked)
  broken earlier e = go (ltb looked (length text)) refl
    where
      one : Stops text (looked + 1) → (LawfulCharacter (take (looked + 1) text) → ⊥) → OneCharacter text (alone looked)
      one s n = record { matches = refl; stops = s; not_before = nowhere_yet earlier; whole = λ w. absurd (n w); alone = λ n. refl }

      go : (b : Bool) → ltb looked (length text) ≡ b → OneCharacter text (alone looked)
      go true m =
          let n = breaks (let i = ltb-true looked (length text) m in omega arith) e in
          one (breaks_off n) (λ w. n (record { rest = []; whole = and_nothing (take (looked + 1) text) w }))
      go false m =
          let i = ltb-false looked (length text) m in
          one (at_end (omega arith))
          (λ w. not_yet (complete (subst LawfulCharacter (take_all (looked + 1) text (omega arith) ∙ sym (take_all looked text i)) w)))

  -- So it is one character, if it is one with the next byte looked at.
  by_next :
      NotBefore text looked
      → (Fit (first ∷ (done ++ (next ∷ []))) (take (looked + 1) text)
      → looked + 1 ≤ length text
      → NotBefore text (looked + 1)
      → OneCharacter text (continued later text 0 (looked + 1)))
      → OneCharacter text (continued (next ∷ later) text 0 looked)
  by_next earlier rest = go (has_at (is_in next) text (0 + looked)) refl
    where
      go :
          (b : Bool) → has_at (is_in next) text (0 + looked) ≡ b
          → OneCharacter text (cond b (continued later text 0 (looked + 1)) (alone looked))
      go true e = let h = has_in_text (is_in next) text (0 + looked) e in rest (continues e) (omega arith) (nowhere_yet earlier)
      go false e = broken earlier e

-- The bytes looked at are the beginning of a character of a line, or the whole.
along :
    (text : List ℕ) (looked : ℕ) {first : Octets} (done later : List Octets)
    → IsOne (begins first (done ++ later)) table
    → Fit (first ∷ done) (take looked text)
    → looked ≤ length text
    → NotBefore text looked
    → OneCharacter text (continued later text 0 looked)
along text looked {first} done [] line begun in_text earlier =
    record { matches = refl; stops = complete whole; not_before = earlier; whole = λ w. refl; alone = λ n. absurd (n whole) }
  where
    whole : LawfulCharacter (take looked text)
    whole = lawful (subst (λ ranges. IsOne (begins first ranges) table) (append-nil done) line) begun
along text looked done (next ∷ later) line begun in_text earlier =
    by_next text looked done next later line begun in_text earlier
    (along text (looked + 1) (done ++ (next ∷ [])) later (rw (append_snoc done next later) line))

-- Before the end, "any" goes along the later bytes of the byte there.
any_at : (byte : ℕ) (others : List ℕ) → terminal_at Any (byte ∷ others) 0 ≡ continued (later_bytes byte) (byte ∷ others) 0 1
unfolding terminal_at accepts later_of
any_at byte others =
    ap (λ (b : Bool). cond b (continued (later_bytes byte) (byte ∷ others) 0 1) not_taken)
    (has_there (accepts Any) (byte ∷ others) 0 (omega arith))

-- A byte that is in no line begins nothing, and is taken alone.
in_no_line : (byte : ℕ) (others : List ℕ) → InNone table byte → OneCharacter (byte ∷ others) (taken 1 1)
in_no_line byte others n =
    record { matches = refl; stops = breaks_off begins-none; not_before = λ j a b s. omega arith; whole = λ w. refl; alone = λ n. refl }
  where
    unlawful : (rest : List ℕ) → LawfulCharacter (byte ∷ rest) → ⊥
    unlawful rest (lawful {first} {later} line (one_more h f)) = n first later line h

    begins-none : Begins (byte ∷ []) → ⊥
    begins-none b = unlawful b.rest b.whole

-- At the start of a text,
at-start : (text : List ℕ) → 0 < length text → OneCharacter text (terminal_at Any text 0)
unfolding later_bytes
at-start [] h = absurd (omega arith)
at-start (byte ∷ others) h = rw (any_at byte others) (go (later_bytes byte) (find table byte))
  where
    go : (later : List Octets) → Found table byte later → OneCharacter (byte ∷ others) (continued later (byte ∷ others) 0 1)
    go later (in_one line e) = along (byte ∷ others) 1 [] later line (one_more e none_left) (omega arith) (λ j a b s. omega arith)
    go later (in_none z n) = rw z (in_no_line byte others n)

-- and at any position before its end.
pub one_character : (text : List ℕ) (p : ℕ) → p < length text → OneCharacter (drop p text) (terminal_at Any text p)
one_character text p h = subst (OneCharacter (drop p text)) same (at-start (drop p text) (let l = length-drop p text in omega arith))
  where
    same : terminal_at Any (drop p text) 0 ≡ terminal_at Any text p
    same =
        sym (suffix Any (take p text) (drop p text) 0)
        ∙ ap₂ (λ (bytes : List ℕ) (k : ℕ). terminal_at Any bytes k)
        (take-append-drop p text)
        (let l = length-take-le p text (omega arith) in let e : length (take p text) + 0 ≡ p = omega arith in e)

-- Bytes that fit the later ranges are taken, whatever stands after them.
all_taken :
    {later : List Octets} {bytes : List ℕ} (seen after : List ℕ)
    → Fit later bytes
    → continued later (seen ++ (bytes ++ after)) 0 (length seen) ≡ taken (length seen + length bytes) (length seen + length bytes)
all_taken seen after none_left = ap (λ (k : ℕ). taken k k) (let e : length seen ≡ length seen + 0 = omega arith in e)
all_taken seen after (one_more {octets = next} {ranges = later} {byte = byte} {bytes = bytes} h f) =
    ap (λ (b : Bool). cond b (continued later text 0 (length seen + 1)) (alone (length seen))) there
    ∙ ap₂ (λ (bytes : List ℕ) (k : ℕ). continued later bytes 0 k) (sym (append_snoc seen byte (bytes ++ after))) (sym longer)
    ∙ all_taken (seen ++ (byte ∷ [])) after f
    ∙ ap (λ (k : ℕ). taken k k)
    (let e : length (seen ++ (byte ∷ [])) + length bytes ≡ length seen + suc (length bytes) = omega (arith, longer) in e)
  where
    text : List ℕ
    text = seen ++ (byte ∷ (bytes ++ after))

    longer : length (seen ++ (byte ∷ [])) ≡ length seen + 1
    longer = length-append seen (byte ∷ [])

    there : has_at (is_in next) text (0 + length seen) ≡ true
    there =
        has_there (is_in next) text (0 + length seen) (let l = length-append seen (byte ∷ (bytes ++ after)) in omega arith)
        ∙ ap (λ (k : ℕ). is_in next (byte_at text k)) (zero-add (length seen))
        ∙ ap (is_in next) (get_or-append_seam seen byte (bytes ++ after) 0)
        ∙ h

-- A lawful character is taken whole.
pub lawful_taken :
    (before character after : List ℕ)
    → LawfulCharacter character
    → terminal_at Any (before ++ (character ++ after)) (length before) ≡ taken (length character) (length character)
lawful_taken before character after (lawful line (one_more {byte = byte} {bytes = bytes} h f)) =
    ap (terminal_at Any (before ++ (byte ∷ (bytes ++ after)))) (let e : length before ≡ length before + 0 = omega arith in e)
    ∙ suffix Any before (byte ∷ (bytes ++ after)) 0
    ∙ any_at byte (bytes ++ after)
    ∙ ap (λ (later : List Octets). continued later (byte ∷ (bytes ++ after)) 0 1) (its_line byte line h)
    ∙ all_taken (byte ∷ []) after f
    ∙ ap (λ (k : ℕ). taken k k) (let e : 1 + length bytes ≡ suc (length bytes) = omega arith in e)

-- No bytes are no character, and begin one: "any" stops at no place before the first byte.
none_fit : {octets : Octets} {ranges : List Octets} → Fit (octets ∷ ranges) [] → ⊥
none_fit = elim [ ]

no_bytes : LawfulCharacter [] → ⊥
no_bytes (lawful line f) = none_fit f

never_at_0 : (bytes : List ℕ) → Stops bytes 0 → ⊥
never_at_0 bytes (complete w) = no_bytes w
never_at_0 bytes (breaks_off n) = n (record { rest = 0x00 ∷ []; whole = lawful here (one_more refl none_left) })
never_at_0 bytes (at_end e) = omega arith

-- What is one character by the same bytes is the same in outcome, length and examined.
module _ (bytes : List ℕ) {x y : Evaluation} (one : OneCharacter bytes x) (other : OneCharacter bytes y) where
  looks_at_some : {z : Evaluation} → OneCharacter bytes z → 1 ≤ z.examined
  looks_at_some {z} o = go (eqb z.examined 0) refl
    where
      go : (b : Bool) → eqb z.examined 0 ≡ b → 1 ≤ z.examined
      go true e = absurd (never_at_0 bytes (subst (Stops bytes) (eqb-true z.examined 0 e) o.stops))
      go false e = omega (arith, eqb-false z.examined 0 e)

  same_examined : x.examined ≡ y.examined
  same_examined = go (ltb x.examined y.examined) refl (ltb y.examined x.examined) refl
    where
      go :
          (b : Bool) → ltb x.examined y.examined ≡ b → (c : Bool) → ltb y.examined x.examined ≡ c → x.examined ≡ y.examined
      go true e c f = absurd (other.not_before x.examined (looks_at_some one) (ltb-true x.examined y.examined e) one.stops)
      go false e true f = absurd (one.not_before y.examined (looks_at_some other) (ltb-true y.examined x.examined f) other.stops)
      go false e false f =
          let h = ltb-false x.examined y.examined e in let k = ltb-false y.examined x.examined f in omega arith

  same_length : x.length ≡ y.length
  same_length = go (eqb x.length y.length) refl
    where
      there : LawfulCharacter (take y.examined bytes) → LawfulCharacter (take x.examined bytes)
      there = subst (λ (k : ℕ). LawfulCharacter (take k bytes)) (sym same_examined)

      back : LawfulCharacter (take x.examined bytes) → LawfulCharacter (take y.examined bytes)
      back = subst (λ (k : ℕ). LawfulCharacter (take k bytes)) same_examined

      go : (b : Bool) → eqb x.length y.length ≡ b → x.length ≡ y.length
      go true e = eqb-true x.length y.length e
      go false e =
          let differ = eqb-false x.length y.length e in
          let unlawful : LawfulCharacter (take x.examined bytes) → ⊥ =
          λ w. differ (one.whole w ∙ same_examined ∙ sym (other.whole (back w))) in
          absurd (differ (one.alone unlawful ∙ sym (other.alone (λ w. unlawful (there w)))))

  pub only_one : (x.matched ≡ y.matched) × (x.length ≡ y.length) × (x.examined ≡ y.examined)
  only_one = (one.matches ∙ sym other.matches, same_length, same_examined)
