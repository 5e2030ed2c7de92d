-- A function of a kind and two sets read from a table. The table is computed from the function, so that antt compares every entry.
-- Assumes nothing.
use Prim.Native.Nat.{ℕ, zero, suc, ◌<◌}
use native.Mathlib.Omega.{arith}
use mathlib.Core.Path.{◌≡◌, refl, ap, ◌∙◌}
use mathlib.Core.List.{List, [], ◌∷◌}
use lib.ListN.{get_or}

module _ {A : Type 0} where
  -- The list of g 0, g 1 and so on, n of them.
  abbrev pub listed : ℕ → (ℕ → A) → List A
  listed zero g = []
  listed (suc n) g = g 0 ∷ listed n (λ k. g (suc k))

  pub in_list : (n : ℕ) (g : ℕ → A) (d : A) (k : ℕ) → k < n → get_or (listed n g) k d ≡ g k
  in_list zero g d k l = absurd (omega arith)
  in_list (suc n) g d zero l = refl
  in_list (suc n) g d (suc k) l = in_list n (λ k. g (suc k)) d k (omega arith)

-- The table with f kind a b for each kind, at row b and column a.
abbrev pub table : (ℕ → ℕ → ℕ → ℕ) → List (List (List ℕ))
table f = listed 8 (λ kind. listed 8 (λ b. listed 8 (λ a. f kind a b)))

pub in_table :
    (f : ℕ → ℕ → ℕ → ℕ) (kind a b : ℕ)
    → kind < 8
    → a < 8
    → b < 8
    → get_or (get_or (get_or (table f) kind []) b []) a 0 ≡ f kind a b
in_table f kind a b k p q =
    ap (λ (t : List (List ℕ)). get_or (get_or t b []) a 0) (in_list 8 (λ i. listed 8 (λ b. listed 8 (λ a. f i a b))) [] kind k)
    ∙ ap (λ (r : List ℕ). get_or r a 0) (in_list 8 (λ b. listed 8 (λ a. f kind a b)) [] b q)
    ∙ in_list 8 (λ a. f kind a b) 0 a p
