-- What the fold bit is for (02, R-1): "Some loggers write KWH and some kwh."
--     still_taken   what is taken without the fold bit is taken with it
--     either_case   a folded range takes a letter in both cases or in neither
--     no_letter     a byte that is no letter is taken as without the fold bit
--     alone         in a lawful word of kind 2 the four zero bits are the fold bit
-- Assumes nothing.
use Prim.Native.Nat.{ℕ, ◌+◌, ◌-◌}
use native.Mathlib.Omega.{arith}
use mathlib.Core.Path.{◌≡◌, refl, ap, ◌∙◌}
use mathlib.Core.Bool.{Bool, true, false, ◌||◌, cond}
use mathlib.Core.List.{List}
use Rattle.grammar.proofs.Between.{bounds, inside, outside}
use Rattle.grammar.specs.declared.node.Terminal.TheVariants.{Range, Folded}
use Rattle.grammar.specs.Image.{fold_bit, kind, node_zero}
use Rattle.grammar.specs.Questions.{LawfulNode}
use Rattle.grammar.specs.Between.{between}
use Rattle.grammar.specs.Terminal.{other_case, accepts}

-- A byte that is no letter stands for its other case; the other case of a capital letter and of a small one.
module _ (byte : ℕ) where
  first_test : Bool → ℕ
  first_test b = cond b (byte + 32) (cond (between 97 122 byte) (byte - 32) byte)

  pub of_no_letter : between 65 90 byte ≡ false → between 97 122 byte ≡ false → other_case byte ≡ byte
  unfolding other_case first_test
  of_no_letter e f = ap first_test e ∙ ap (λ (b : Bool). cond b (byte - 32) byte) f

  pub of_capital : between 65 90 byte ≡ true → other_case byte ≡ byte + 32
  unfolding other_case first_test
  of_capital e = ap first_test e

  pub of_small : between 65 90 byte ≡ false → between 97 122 byte ≡ true → other_case byte ≡ byte - 32
  unfolding other_case first_test
  of_small e f = ap first_test e ∙ ap (λ (b : Bool). cond b (byte - 32) byte) f

-- Every byte is the other case of its other case.
other_twice : (byte : ℕ) → other_case (other_case byte) ≡ byte
other_twice byte = go (between 65 90 byte) refl (between 97 122 byte) refl
  where
    go : (b : Bool) → between 65 90 byte ≡ b → (c : Bool) → between 97 122 byte ≡ c → other_case (other_case byte) ≡ byte
    go true e c f =
        let t = bounds 65 90 byte e in
        let h = t.0 in
        let k = t.1 in
        ap other_case (of_capital byte e)
        ∙ of_small (byte + 32) (outside 65 90 (byte + 32) (λ l m. omega arith)) (inside 97 122 (byte + 32) (omega arith) (omega arith))
        ∙ omega arith
    go false e true f =
        let t = bounds 97 122 byte f in
        let h = t.0 in
        let k = t.1 in
        ap other_case (of_small byte e f) ∙ of_capital (byte - 32) (inside 65 90 (byte - 32) (omega arith) (omega arith)) ∙ omega arith
    go false e false f = ap other_case (of_no_letter byte e f) ∙ of_no_letter byte e f

module _ (from to byte : ℕ) where
  pub still_taken : accepts (Range from to) byte ≡ true → accepts (Folded from to) byte ≡ true
  unfolding accepts
  still_taken e = simp e

  pub either_case : accepts (Folded from to) (other_case byte) ≡ accepts (Folded from to) byte
  unfolding accepts
  either_case =
      ap (λ (x : ℕ). between from to (other_case byte) || between from to x) (other_twice byte)
      ∙ swapped (between from to (other_case byte)) (between from to byte)
    where
      swapped : (a b : Bool) → (a || b) ≡ (b || a)
      swapped true true = refl
      swapped true false = refl
      swapped false true = refl
      swapped false false = refl

  pub no_letter :
      between 65 90 byte ≡ false → between 97 122 byte ≡ false → accepts (Folded from to) byte ≡ accepts (Range from to) byte
  unfolding accepts
  no_letter e f =
      ap (λ (x : ℕ). between from to byte || between from to x) (of_no_letter byte e f) ∙ once (between from to byte)
    where
      once : (a : Bool) → (a || a) ≡ a
      once true = refl
      once false = refl

pub alone : (img : List ℕ) (n : ℕ) → LawfulNode img n → kind img n ≡ 2 → fold_bit (node_zero img n) ≡ node_zero img n
alone img n lawful two = omega (arith, lawful.zero_bits_2 two)
