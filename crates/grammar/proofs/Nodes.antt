-- Which node a word stands for, by the kind among its fields, and in kind 2 by the fold bit. Assumes nothing.
use Prim.Native.Nat.{ℕ, zero, suc, ◌≤◌, ◌<◌, min}
use native.Mathlib.Omega.{arith}
use borrow.Author.Tests.{eq-eqb, ne_eqb}
use mathlib.Core.Path.{◌≡◌, refl, sym, ap, ◌∙◌, subst}
use mathlib.Core.Bool.{Bool, cond}
use lib.ListN.{get_or, get_or-eq_default}
use Rattle.grammar.specs.declared.node.NodeFields.{NodeFields}
use Rattle.grammar.specs.declared.node.Terminal.{Terminal}
use Rattle.grammar.specs.declared.node.Terminal.TheVariants.{Any, Range, Folded}
use Rattle.grammar.specs.Image.{by_kind, node_of, fold_bit, range_by, byte_range}
use Rattle.grammar.specs.declared.node.Node.{Node}
use Rattle.grammar.specs.declared.node.Node.TheVariants.{Empty, Text, Sequence, Choice, Star, NotPredicate, Call, Unlawful}

-- Kind 2 with the fold bit and without.
module _ (bits from to : ℕ) where
  by_bit : Bool → Terminal
  by_bit b = cond b (Folded from to) (Range from to)

  pub with_bit : fold_bit bits ≡ 1 → range_by bits from to ≡ Folded from to
  unfolding by_bit
  with_bit e = ap by_bit (eq-eqb (fold_bit bits) 1 e)

  pub without_bit : (fold_bit bits ≡ 1 → ⊥) → range_by bits from to ≡ Range from to
  unfolding by_bit
  without_bit e = ap by_bit (ne_eqb (fold_bit bits) 1 e)

module _ (f : NodeFields) where
  of_kind : {k : ℕ} → f.kind ≡ k → node_of f ≡ get_or (by_kind f) k Unlawful
  unfolding node_of
  of_kind e = ap (λ (k : ℕ). get_or (by_kind f) k Unlawful) e

  pub is_empty : f.kind ≡ 0 → node_of f ≡ Empty
  is_empty e = of_kind e

  pub is_any : f.kind ≡ 1 → node_of f ≡ Text Any
  is_any e = of_kind e

  pub is_range : f.kind ≡ 2 → node_of f ≡ Text (byte_range f)
  is_range e = of_kind e

  pub is_plain_range : f.kind ≡ 2 → fold_bit f.zero ≡ 0 → node_of f ≡ Text (Range f.a f.b)
  is_plain_range e z = is_range e ∙ ap Text (without_bit f.zero f.a f.b (λ o. omega arith))

  pub is_sequence : f.kind ≡ 3 → node_of f ≡ Sequence f.a f.b
  is_sequence e = of_kind e

  pub is_choice : f.kind ≡ 4 → node_of f ≡ Choice f.a f.b
  is_choice e = of_kind e

  pub is_star : f.kind ≡ 5 → node_of f ≡ Star f.a
  is_star e = of_kind e

  pub is_not : f.kind ≡ 6 → node_of f ≡ NotPredicate f.a
  is_not e = of_kind e

  pub is_call : f.kind ≡ 7 → node_of f ≡ Call f.a
  is_call e = of_kind e

  pub is_unlawful : 8 ≤ f.kind → node_of f ≡ Unlawful
  unfolding node_of
  is_unlawful h = get_or-eq_default (by_kind f) Unlawful h

-- The kind of a node, read back from it, which 1 and 2 need not be.
abbrev kind_of : Node → ℕ
kind_of Empty = 0
kind_of (Text t) = 1
kind_of (Sequence a b) = 3
kind_of (Choice a b) = 4
kind_of (Star a) = 5
kind_of (NotPredicate a) = 6
kind_of (Call r) = 7
kind_of Unlawful = 8

read_back : (f : NodeFields) → 3 ≤ kind_of (node_of f) → kind_of (node_of f) ≡ min f.kind 8
read_back f = go f.kind refl
  where
    go : (k : ℕ) → f.kind ≡ k → 3 ≤ kind_of (node_of f) → kind_of (node_of f) ≡ min f.kind 8
    go zero e h = absurd (omega (arith, ap kind_of (is_empty f e)))
    go (suc zero) e h = absurd (omega (arith, ap kind_of (is_any f e)))
    go (suc (suc zero)) e h = absurd (omega (arith, ap kind_of (is_range f e)))
    go (suc (suc (suc zero))) e h = ap kind_of (is_sequence f e) ∙ omega arith
    go (suc (suc (suc (suc zero)))) e h = ap kind_of (is_choice f e) ∙ omega arith
    go (suc (suc (suc (suc (suc zero))))) e h = ap kind_of (is_star f e) ∙ omega arith
    go (suc (suc (suc (suc (suc (suc zero)))))) e h = ap kind_of (is_not f e) ∙ omega arith
    go (suc (suc (suc (suc (suc (suc (suc zero))))))) e h = ap kind_of (is_call f e) ∙ omega arith
    go (suc (suc (suc (suc (suc (suc (suc (suc k)))))))) e h = ap kind_of (is_unlawful f (omega arith)) ∙ omega arith

module _ (f : NodeFields) where
  pub kind_of_call : {r : ℕ} → node_of f ≡ Call r → f.kind ≡ 7
  kind_of_call e = let k = ap kind_of e in omega (arith, read_back f (omega arith))

  pub kind_of_unlawful : node_of f ≡ Unlawful → 8 ≤ f.kind
  kind_of_unlawful e = let k = ap kind_of e in omega (arith, read_back f (omega arith))

-- The rule that a node calls is its field A.
pub rule_of_call : (f : NodeFields) {r : ℕ} → node_of f ≡ Call r → f.a ≡ r
rule_of_call f e = cc (is_call f (kind_of_call f e), e)

-- The numbers in a node are below 4096 where its fields are.
abbrev pub Few : Node → Type 0
Few Empty = Unit {0}
Few (Text t) = Unit {0}
Few (Sequence a b) = (a < 4096) × (b < 4096)
Few (Choice a b) = (a < 4096) × (b < 4096)
Few (Star a) = a < 4096
Few (NotPredicate a) = a < 4096
Few (Call r) = r < 4096
Few Unlawful = Unit {0}

pub few : (f : NodeFields) {m : Node} → f.a < 4096 → f.b < 4096 → node_of f ≡ m → Few m
few f {m} a b e = subst Few e (go f.kind refl)
  where
    go : (k : ℕ) → f.kind ≡ k → Few (node_of f)
    go zero k = subst Few (sym (is_empty f k)) tt
    go (suc zero) k = subst Few (sym (is_any f k)) tt
    go (suc (suc zero)) k = subst Few (sym (is_range f k)) tt
    go (suc (suc (suc zero))) k = subst Few (sym (is_sequence f k)) (a, b)
    go (suc (suc (suc (suc zero)))) k = subst Few (sym (is_choice f k)) (a, b)
    go (suc (suc (suc (suc (suc zero))))) k = subst Few (sym (is_star f k)) a
    go (suc (suc (suc (suc (suc (suc zero)))))) k = subst Few (sym (is_not f k)) a
    go (suc (suc (suc (suc (suc (suc (suc zero))))))) k = subst Few (sym (is_call f k)) a
    go (suc (suc (suc (suc (suc (suc (suc (suc j)))))))) k = subst Few (sym (is_unlawful f (omega arith))) tt
