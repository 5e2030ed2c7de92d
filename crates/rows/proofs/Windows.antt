-- What windows touch: nothing lies in the window (n + 1, 0), all rows of the text lie in (0, n), and where a window does not touch what
-- matched it touches none of its rows. Assumes nothing.
use Prim.Native.Nat.{ℕ, ◌+◌, ◌≤◌}
use native.Mathlib.Omega.{arith}
use mathlib.Core.Path.{◌≡◌, refl, sym, ap, ◌∙◌}
use mathlib.Core.Bool.{Bool, true, false, ◌&&◌, true≢false}
use mathlib.Core.List.{List, [], ◌∷◌, ◌++◌}
use lib.Dec.{leb}
use borrow.Author.Tests.{leb-true, le-leb, lt-leb}
use Rattle.grammar.proofs.Bools.{both, joined}
use Rattle.rows.specs.Rows.{Row, row_word, row_words}
use Rattle.rows.specs.Window.{touches, word_if, shown}
use Rattle.rows.proofs.RowsInside.{AllInside, none_left, and_then}

and_false : (a b : Bool) → b ≡ false → a && b ≡ false
and_false true b e = e
and_false false b e = refl

pub touches_nothing : (n at len : ℕ) → at + len ≤ n → touches (n + 1) 0 at len ≡ false
unfolding touches
touches_nothing n at len h = and_false (leb at 0) (leb (n + 1) (at + len)) (lt-leb (n + 1) (at + len) (omega arith))

touches_all : (n at len : ℕ) → at + len ≤ n → touches 0 n at len ≡ true
unfolding touches
touches_all n at len h = joined (le-leb at n (omega arith)) (le-leb 0 (at + len) (omega arith))

-- What touches a part touches the whole.
part_touched :
    (lo hi at len from to : ℕ) → from ≤ at → at + len ≤ from + to → touches lo hi at len ≡ true → touches lo hi from to ≡ true
unfolding touches
part_touched lo hi at len from to a b e =
    let d = both (leb at hi) (leb lo (at + len)) e in
    let x = leb-true at hi d.0 in
    let y = leb-true lo (at + len) d.1 in
    joined (le-leb from hi (omega arith)) (le-leb lo (from + to) (omega arith))

part_missed :
    (lo hi at len from to : ℕ) → from ≤ at → at + len ≤ from + to → touches lo hi from to ≡ false → touches lo hi at len ≡ false
part_missed lo hi at len from to a b e = go (touches lo hi at len) refl
  where
    go : (v : Bool) → touches lo hi at len ≡ v → touches lo hi at len ≡ false
    go true f = absurd (true≢false (sym (part_touched lo hi at len from to a b f) ∙ e))
    go false f = f

pub none_shown :
    (lo hi from to : ℕ) {R top : ℕ} {rs : List Row} → AllInside R from (from + to) top rs → touches lo hi from to ≡ false
    → shown lo hi rs ≡ []
unfolding shown
none_shown lo hi from to none_left e = refl
none_shown lo hi from to (and_then {r = r} {rs = rs} i l) e =
    ap (λ (b : Bool). word_if b (row_word r) (shown lo hi rs)) (part_missed lo hi r.start r.length from to i.from_on i.up_to e)
    ∙ none_shown lo hi from to l e

pub all_shown : (n : ℕ) {R from top : ℕ} {rs : List Row} → AllInside R from n top rs → shown 0 n rs ≡ row_words rs
unfolding shown row_words
all_shown n none_left = refl
all_shown n (and_then {r = r} {rs = rs} i l) =
    ap (λ (b : Bool). word_if b (row_word r) (shown 0 n rs)) (touches_all n r.start r.length i.up_to)
    ∙ ap (λ (ws : List ℕ). row_word r ∷ ws) (all_shown n l)

pub shown_both : (lo hi : ℕ) (rs ss : List Row) → shown lo hi (rs ++ ss) ≡ shown lo hi rs ++ shown lo hi ss
unfolding shown
shown_both lo hi [] ss = refl
shown_both lo hi (r ∷ rs) ss =
    ap (word_if (touches lo hi r.start r.length) (row_word r)) (shown_both lo hi rs ss)
    ∙ go (touches lo hi r.start r.length)
  where
    go :
        (b : Bool)
        → word_if b (row_word r) (shown lo hi rs ++ shown lo hi ss) ≡ word_if b (row_word r) (shown lo hi rs) ++ shown lo hi ss
    go true = refl
    go false = refl
