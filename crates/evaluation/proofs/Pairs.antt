-- Pairs in lists: membership as a type (In) and as a test (is_in). Assumes nothing.
use Prim.Native.Nat.{ℕ}
use mathlib.Core.Path.{◌≡◌, refl, sym, ap, ◌∙◌, subst}
use mathlib.Core.Bool.{Bool, true, false, ◌&&◌, ◌||◌, true≢false}
use mathlib.Core.List.{List, [], ◌∷◌, ◌++◌}
use mathlib.Core.Logic.{◌⊎◌, inl, inr, ⊎_elim}
use lib.Dec.{eqb}
use borrow.Author.Tests.{eqb-true, eq-eqb}
use Rattle.grammar.proofs.Bools.{or_right}
use Rattle.evaluation.specs.Calls.{Pair, In, here, later, is_in}

pub none_in : {x : Pair} → In x [] → ⊥
none_in = elim [ ]

pub in_either : {x : Pair} (xs ys : List Pair) → In x (xs ++ ys) → In x xs ⊎ In x ys
in_either [] ys i = inr i
in_either (y ∷ xs) ys here = inl here
in_either (y ∷ xs) ys (later i) = ⊎_elim (λ a. inl (later a)) (λ b. inr b) (in_either xs ys i)

pub in_left : {x : Pair} {xs : List Pair} (ys : List Pair) → In x xs → In x (xs ++ ys)
in_left ys here = here
in_left ys (later i) = later (in_left ys i)

pub in_right : {x : Pair} (xs : List Pair) {ys : List Pair} → In x ys → In x (xs ++ ys)
in_right [] i = i
in_right (y ∷ xs) i = later (in_right xs i)

pub one_by_one : {us vs xs ys : List Pair} → us ≡ xs → vs ≡ ys → us ++ vs ≡ xs ++ ys
one_by_one {vs = vs} {xs = xs} a b = ap (λ (l : List Pair). l ++ vs) a ∙ ap (λ (l : List Pair). xs ++ l) b

-- Two pairs with the same rule and position.
pub one_pair : {r q s p : ℕ} → r ≡ s → q ≡ p → ◌≡◌ {A = Pair} (record { rule = r; position = q }) (record { rule = s; position = p })
one_pair a b = λ i. record { rule = a i; position = b i }

both_on : (a b c : Bool) → a ≡ true → b ≡ true → a && b || c ≡ true
both_on true true c e f = refl
both_on true false c e f = absurd (true≢false (sym f))
both_on false b c e f = absurd (true≢false (sym e))

-- The test says what the type says.
pub in_is : {x : Pair} {ps : List Pair} → In x ps → is_in x.rule x.position ps ≡ true
unfolding is_in
in_is {x} (here {xs}) =
    both_on (eqb x.rule x.rule) (eqb x.position x.position) (is_in x.rule x.position xs)
    (eq-eqb x.rule x.rule refl)
    (eq-eqb x.position x.position refl)
in_is {x} (later {y} i) = or_right (eqb y.rule x.rule && eqb y.position x.position) _ (in_is i)

pub is_in_lem : (r q : ℕ) (ps : List Pair) → is_in r q ps ≡ true → In (record { rule = r; position = q }) ps
unfolding is_in
is_in_lem r q [] e = absurd (true≢false (sym e))
is_in_lem r q (x ∷ ps) e = go (eqb x.rule r) refl (eqb x.position q) refl (λ t. later (is_in_lem r q ps t)) e
  where
    go :
        (a : Bool) → eqb x.rule r ≡ a → (b : Bool) → eqb x.position q ≡ b
        → (is_in r q ps ≡ true → In (record { rule = r; position = q }) (x ∷ ps))
        → a && b || is_in r q ps ≡ true → In (record { rule = r; position = q }) (x ∷ ps)
    go true ea true eb f t = subst (λ (y : Pair). In y (x ∷ ps)) (one_pair (eqb-true x.rule r ea) (eqb-true x.position q eb)) here
    go true ea false eb f t = f t
    go false ea b eb f t = f t

pub not_in : (r q : ℕ) (ps : List Pair) → is_in r q ps ≡ false → In (record { rule = r; position = q }) ps → ⊥
not_in r q ps e i = true≢false (sym (in_is i) ∙ e)

pub is_in_both : (r q : ℕ) (xs ys : List Pair) → is_in r q (xs ++ ys) ≡ is_in r q xs || is_in r q ys
unfolding is_in
is_in_both r q [] ys = refl
is_in_both r q (x ∷ xs) ys =
    ap (λ (b : Bool). eqb x.rule r && eqb x.position q || b) (is_in_both r q xs ys)
    ∙ or_assoc (eqb x.rule r && eqb x.position q) (is_in r q xs) (is_in r q ys)
  where
    or_assoc : (a b c : Bool) → a || (b || c) ≡ a || b || c
    or_assoc true b c = refl
    or_assoc false b c = refl
