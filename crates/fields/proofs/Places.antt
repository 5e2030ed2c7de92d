-- The laws of the first place that has a byte: it has it, no place before it does, and where there is none no place does. Assumes nothing.
use Rattle.std.proofs.Common.{ℕ, suc, ◌+◌, ◌-◌, ◌≤◌, ◌<◌, ◌≡◌, ◌≢◌, inl, ◌==◌, List, ◌∷◌, ◌++◌, length, get_or, take, drop, arith, sym, ap}
use Rattle.std.proofs.Common.{Bool, cond, ◌∙◌}
use Rattle.std.specs.Prelude.{Some, None, Option, IfNone}
use Rattle.std.specs.List.{position, position_or_len}
use Rattle.std.proofs.lemmas.Bool.{eqb-true, eqb-false}
use Rattle.std.proofs.lemmas.Grind.{common_steps}
use Rattle.std.proofs.lemmas.List.Quantifiers.{position-Some}
use Rattle.std.proofs.lemmas.List.Sums.{fails_before_first}
use Rattle.std.proofs.Math.Seq.{split_at}
use mathlib.Core.Logic.{⊎_elim}
use borrow.Author.Tests.{lt-ltb}
use Rattle.std.proofs.lemmas.Option.{none-some}
use Rattle.buffers.proofs.Fill.{cut}
use Rattle.fields.specs.Fields.{FieldOf}

module _ (byte : ℕ) (xs : List ℕ) where
  inside : (i : ℕ) → position (λ b. b == byte) xs ≡ Some i → i < length xs
  inside i e = (position-Some (λ b. b == byte) xs i 0 e).0

  has : (i : ℕ) → position (λ b. b == byte) xs ≡ Some i → get_or xs i 0 ≡ byte
  has i e = eqb-true (get_or xs i 0) byte (position-Some (λ b. b == byte) xs i 0 e).1

  before : (i k : ℕ) → position (λ b. b == byte) xs ≡ Some i → k < i → get_or xs k 0 ≢ byte
  before i k e h = eqb-false (get_or xs k 0) byte ((position-Some (λ b. b == byte) xs i 0 e).2 k h)

  misses : (k : ℕ) → position (λ b. b == byte) xs ≡ None → k < length xs → get_or xs k 0 ≢ byte
  misses k e h =
      let n = position_or_len (λ b. b == byte) xs in
      ⊎_elim
      (λ (l : n < length xs). absurd (none-some n (sym e ∙ ap (λ (t : Bool). cond t (Some n) None) (lt-ltb n (length xs) l))))
      (λ (l : length xs ≤ n). eqb-false (get_or xs k 0) byte (fails_before_first (λ b. b == byte) xs k 0 (omega arith)))
      (cut n (length xs))

-- In the rest of a line from a place on.
module _ (byte : ℕ) (xs : List ℕ) (from : ℕ) where
  abbrev rest : List ℕ
  rest = take (length xs - from) (drop from xs)

  read : (k : ℕ) → from ≤ k → k < length xs → get_or rest (k - from) 0 ≡ get_or xs k 0
  read k h l = grind (arith, common_steps)

  long : from ≤ length xs → length rest ≡ length xs - from
  long h = grind (arith, common_steps)

  pub rest_has :
      (i : ℕ) → from ≤ length xs → position (λ b. b == byte) rest ≡ Some i → get_or xs (from + i) 0 ≡ byte
  rest_has i h e =
      let l = long h in
      let n = inside byte rest i e in
      let s : (from + i) - from ≡ i = omega arith in
      sym (read (from + i) (omega arith) (omega arith)) ∙ ap (λ (x : ℕ). get_or rest x 0) s ∙ has byte rest i e

  pub rest_before :
      (i k : ℕ) → from ≤ length xs → position (λ b. b == byte) rest ≡ Some i → from ≤ k → k < from + i → get_or xs k 0 ≢ byte
  rest_before i k h e a b =
      let l = long h in
      let n = inside byte rest i e in
      λ q. before byte rest i (k - from) e (omega arith) (read k a (omega arith) ∙ q)

  pub rest_misses :
      (k : ℕ) → from ≤ length xs → position (λ b. b == byte) rest ≡ None → from ≤ k → k < length xs → get_or xs k 0 ≢ byte
  rest_misses k h e a b =
      let l = long h in
      λ q. misses byte rest (k - from) e (omega arith) (read k a b ∙ q)

pub if_none : (o : Option ℕ) {P : Type 0} → P → IfNone o P
if_none (Some x) p = tt
if_none None p = p

-- A line is cut at its first space.
pub cut_at :
    (xs : List ℕ) (i : ℕ) → i < length xs → get_or xs i 0 ≡ 32 → ((k : ℕ) → 0 ≤ k → k < i → get_or xs k 0 ≢ 32)
    → FieldOf xs (take i xs) (take (length xs - (i + 1)) (drop (i + 1) xs))
cut_at xs i n h b =
    let p : suc i ≡ i + 1 = omega arith in
    let s = split_at xs i 0 n ∙ ap (λ (x : ℕ). take i xs ++ get_or xs i 0 ∷ drop x xs) p in
    let l : length (take i xs) ≡ i = grind (arith, common_steps) in
    let r : take (length xs - (i + 1)) (drop (i + 1) xs) ≡ drop (i + 1) xs = grind (arith, common_steps) in (
      λ k m.
          let g : get_or (take i xs) k 0 ≡ get_or xs k 0 = grind (arith, common_steps) in
          λ q. b k (omega arith) (omega arith) (sym g ∙ q),
      inl (s ∙ ap (λ (x : ℕ). take i xs ++ x ∷ drop (i + 1) xs) h ∙ ap (λ (t : List ℕ). take i xs ++ 32 ∷ t) (sym r)),
    )
