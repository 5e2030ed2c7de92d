-- The number of the first question that fails: it is unique, and a list of questions can be asked in two parts.
-- Assumes nothing.
use Prim.Native.Nat.{ℕ, ◌≤◌}
use native.Mathlib.Omega.{arith}
use mathlib.Core.Path.{◌≡◌, sym, ◌∙◌}
use mathlib.Core.List.{List, [], ◌∷◌, ◌++◌}
use mathlib.Core.Logic.{inl, inr}
use Rattle.grammar.specs.Questions.{Question, First, of_image}

-- Every question of the list has a number above 0, so that 0 says that all hold.
abbrev pub Numbered : List Question → Type 0
Numbered [] = Unit {0}
Numbered (q ∷ qs) = (1 ≤ q.number) × Numbered qs

pub image_numbers : (img : List ℕ) → Numbered (of_image img)
image_numbers img = (omega arith, (omega arith, (omega arith, (omega arith, (omega arith, (omega arith, (omega arith, tt)))))))

pub unique : (qs : List Question) (r s : ℕ) → First qs r → First qs s → r ≡ s
unique [] r s a b = a ∙ sym b
unique (q ∷ qs) r s (inl a) (inl b) = a.1 ∙ sym b.1
unique (q ∷ qs) r s (inl a) (inr b) = absurd (a.0 b.0)
unique (q ∷ qs) r s (inr a) (inl b) = absurd (b.0 a.0)
unique (q ∷ qs) r s (inr a) (inr b) = unique qs r s a.1 b.1

-- Where all of qs hold, the answer to qs and then rs is the answer to rs.
pub then_asked : (qs rs : List Question) (r : ℕ) → Numbered qs → First qs 0 → First rs r → First (qs ++ rs) r
then_asked [] rs r n a b = b
then_asked (q ∷ qs) rs r n (inl a) b = absurd (let e = a.1 in let h = n.0 in omega arith)
then_asked (q ∷ qs) rs r n (inr a) b = inr (a.0, then_asked qs rs r n.1 a.1 b)
