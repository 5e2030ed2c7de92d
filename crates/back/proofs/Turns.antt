-- One turn of each loop over words: what is filled and how many are held, one word further. Assumes nothing.
use Prim.Native.Nat.{ℕ, ◌+◌, ◌-◌, ◌≤◌, ◌<◌}
use native.Mathlib.Omega.{arith}
use mathlib.Core.Path.{◌≡◌, refl, sym, ap, ◌∙◌, subst}
use mathlib.Core.Bool.{Bool, true, false, cond}
use mathlib.Core.List.{List}
use lib.ListN.{length, set}
use Rattle.buffers.specs.Filled.{Filled, at}
use Rattle.buffers.proofs.Fill.{up, down, fit}
use Rattle.records.specs.Words.{is_held}
use Rattle.editing.specs.Held.{held_bit, only_held, held_to}
use Rattle.back.specs.Back.{Carried, Put}
use Rattle.editing.proofs.Held.{held_more, held_same, held_add, held_most, bit-over}

-- A word carried down: it is read at or past what was stored.
carried_down :
    {old new : List ℕ} {from to i c b v : ℕ}
    → Carried old new from to i c
    → to ≤ from
    → from + i < length old
    → b ≡ held_bit (at new (from + i))
    → v ≡ only_held (at new (from + i))
    → Carried old (set new (to + i) v) from to (i + 1) (c + b)
carried_down {old} {new} {from} {to} {i} {c} {b} {v} C h l e d =
    let F = C.filled in
    let same : at new (from + i) ≡ at old (from + i) = F.past (from + i) (omega arith) in
    let there : from + i ≡ from + (to + i - to) = omega arith in
    let word = d ∙ ap only_held (same ∙ ap (λ (x : ℕ). at old x) there) in
    let bit = e ∙ ap held_bit same in
    record {
      filled = fit (up F (omega arith) (omega arith) word) refl (omega arith) (λ j p q. refl);
      counted = (let more = held_more (λ j. at old (from + j)) i in let count = C.counted in omega arith);
    }

-- What a downward loop has carried when i words are left.
pub record Left (old new : List ℕ) (from to count i c : ℕ) : Type 0 where
  pub filled : Filled (λ j. only_held (at old (from + (j - to)))) old new (to + i) (to + count)
  pub counted : c + held_to (λ j. at old (from + j)) i ≡ held_to (λ j. at old (from + j)) count

-- A word carried up: it is read before what was stored.
carried_up :
    {old new : List ℕ} {from to count c b v : ℕ} (i : ℕ)
    → Left old new from to count (i + 1) c
    → from ≤ to
    → i < count
    → to + count ≤ length old
    → b ≡ held_bit (at new (from + i))
    → v ≡ only_held (at new (from + i))
    → Left old (set new (to + i) v) from to count i (c + b)
carried_up {old} {new} {from} {to} {count} {c} {b} {v} i C h l k e d =
    let F = C.filled in
    let same : at new (from + i) ≡ at old (from + i) = F.before (from + i) (omega arith) in
    let there : from + i ≡ from + (to + i - to) = omega arith in
    let word = d ∙ ap only_held (same ∙ ap (λ (x : ℕ). at old x) there) in
    let bit = e ∙ ap held_bit same in
    record {
      filled = down (to + i) (fit F (omega arith) refl (λ j p q. refl)) (omega arith) (omega arith) word;
      counted = (let more = held_more (λ j. at old (from + j)) i in let count = C.counted in omega arith);
    }

-- What a loop has carried in i turns: going up, all but the first count − i words; going down, the first i.
pub record SoFar (up : Bool) (old new : List ℕ) (from to count i c : ℕ) : Type 0 where
  pub upward : up ≡ true → Left old new from to count (count - i) c
  pub downward : up ≡ false → Carried old new from to i c

pub carried_more :
    (up : Bool) {old new : List ℕ} {from to count i slot c b v : ℕ}
    → SoFar up old new from to count i c
    → (up ≡ true → from ≤ to) × (up ≡ false → to ≤ from)
    → i < count
    → from + count ≤ length old
    → to + count ≤ length old
    → (up ≡ true → slot ≡ count - 1 - i) × (up ≡ false → slot ≡ i)
    → b ≡ held_bit (at new (from + slot))
    → v ≡ only_held (at new (from + slot))
    → SoFar up old (set new (to + slot) v) from to count (i + 1) (c + b)
carried_more up {old} {new} {from} {to} {count} {i} {slot} {c} {b} {v} S o h l k s e d =
    record {
      upward = λ yes.
          (let is = s.0 yes in
          let more : count - i ≡ slot + 1 = omega arith in
          let next : slot ≡ count - (i + 1) = omega arith in
          subst
          (λ (x : ℕ). Left old (set new (to + slot) v) from to count x (c + b))
          next
          (carried_up slot (subst (λ (x : ℕ). Left old new from to count x c) more (S.upward yes)) (o.0 yes) (omega arith) k e d));
      downward = λ no.
          (let is = s.1 no in
          subst
          (λ (x : ℕ). Carried old (set new (to + x) v) from to (i + 1) (c + b))
          (sym is)
          (carried_down
          (S.downward no)
          (o.1 no)
          (omega arith)
          (e ∙ ap (λ (x : ℕ). held_bit (at new (from + x))) is)
          (d ∙ ap (λ (x : ℕ). only_held (at new (from + x))) is)));
    }

-- Each turn counts at most one word.
pub carried_few : (up : Bool) {old new : List ℕ} {from to count i c : ℕ} → SoFar up old new from to count i c → i ≤ count → c ≤ i
carried_few true {old} {from = from} {count = count} {i = i} S h =
    let f : ℕ → ℕ = λ j. at old (from + j) in
    let all : count - i + i ≡ count = omega arith in
    let sum = held_add f (count - i) i in
    let most = held_most (λ j. f (count - i + j)) i in
    let whole = ap (held_to f) all in
    let e = (S.upward refl).counted in
    omega arith
carried_few false {old} {from = from} {i = i} S h =
    let most = held_most (λ j. at old (from + j)) i in let e = (S.downward refl).counted in omega arith

-- A row's word put over another.
pub put_over :
    {row old new : List ℕ} {i c a b v : ℕ}
    → Put row old new i c
    → i < length old
    → v ≡ cond (is_held (at row i)) (at row i) (at new i)
    → a ≡ held_bit v
    → b ≡ held_bit (at new i)
    → Put row old (set new i v) (i + 1) (c + a - b)
put_over {row} {old} {new} {i} {c} {a} {b} {v} P l d e g =
    let F = P.filled in
    let same = F.past i (omega arith) in
    let word : v ≡ cond (is_held (at row i)) (at row i) (at old i) =
    d ∙ ap (λ (x : ℕ). cond (is_held (at row i)) (at row i) x) same in
    let G = up F (omega arith) l word in
    let now : at (set new i v) i ≡ v = G.inside i (omega arith) (omega arith) ∙ sym word in
    let kept = held_same (at (set new i v)) (at new) i (λ j h. G.inside j (omega arith) (omega arith) ∙ sym (F.inside j (omega arith) h)) in
    let above : held_bit (at new i) ≤ held_bit v = rw d (bit-over (at row i) (at new i)) in
    let bit : held_bit (at (set new i v) i) ≡ held_bit v = ap held_bit now in
    let was : held_bit (at new i) ≡ held_bit (at old i) = ap held_bit same in
    record {
      filled = G;
      counted =
          (let more = held_more (at (set new i v)) i in
          let before = held_more (at old) i in
          let count = P.counted in
          omega arith);
    }
