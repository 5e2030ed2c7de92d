-- The questions in front of each call: where they all hold, and what is left to ask. Assumes nothing.
use Prim.Native.Nat.{ℕ}
use native.Mathlib.Omega.{arith}
use mathlib.Core.Path.{◌≡◌, refl}
use mathlib.Core.List.{List, [], ◌∷◌, ◌++◌}
use mathlib.Core.Logic.{inl, inr}
use Rattle.grammar.specs.Questions.{Question, First, of_image, Accepted}
use Rattle.grammar.proofs.First.{Numbered, image_numbers, then_asked, unique}
use Rattle.grammar.proofs.Acceptance.{accepted, checked}
use Rattle.promises.specs.Questions.{Question8, Question9, Question10, Question11, of_sheet, of_edit, of_look_up}

-- Where qs and then rs all hold, both do.
first_parts : (qs rs : List Question) → Numbered qs → First (qs ++ rs) 0 → First qs 0 × First rs 0
first_parts [] rs n a = (refl, a)
first_parts (q ∷ qs) rs n (inl a) = absurd (let e = a.1 in let h = n.0 in omega arith)
first_parts (q ∷ qs) rs n (inr a) = let x = first_parts qs rs n.1 a.1 in (inr (a.0, x.0), x.1)

-- Where qs hold, the answer to qs and then rs is one to rs.
pub first_rest : (qs rs : List Question) (r : ℕ) → Numbered qs → First qs 0 → First (qs ++ rs) r → First rs r
first_rest [] rs r n a b = b
first_rest (q ∷ qs) rs r n (inl a) b = absurd (let e = a.1 in let h = n.0 in omega arith)
first_rest (q ∷ qs) rs r n (inr a) (inl b) = absurd (b.0 a.0)
first_rest (q ∷ qs) rs r n (inr a) (inr b) = first_rest qs rs r n.1 a.1 b.1

sheet_numbers : (img : List ℕ) (cap n words : ℕ) → Numbered (of_sheet img cap n words)
sheet_numbers img cap n words =
    (omega arith, (omega arith, (omega arith, (omega arith, (omega arith, (omega arith, (omega arith, (omega arith, tt))))))))

module _ (img : List ℕ) (cap n words : ℕ) where
  -- Questions 1 to 8, where all hold.
  pub sheet_first : Accepted img → Question8 img cap n words → First (of_sheet img cap n words) 0
  sheet_first a q =
      then_asked (of_image img) (record { number = 8; holds = Question8 img cap n words } ∷ []) 0 (image_numbers img) (checked a).first
      (inr (q, refl))

  pub sheet_passed : First (of_sheet img cap n words) 0 → Accepted img × Question8 img cap n words
  sheet_passed f =
      let x = first_parts (of_image img) (record { number = 8; holds = Question8 img cap n words } ∷ []) (image_numbers img) f in
      (accepted (record { first = x.0 }), go x.1)
    where
      go : First (record { number = 8; holds = Question8 img cap n words } ∷ []) 0 → Question8 img cap n words
      go (inl a) = absurd (let e = a.1 in omega arith)
      go (inr a) = a.0

  module _ (good : First (of_sheet img cap n words) 0) where
    -- An edit that fails 9, that fails 10, and that passes both,
    module _ (s e k : ℕ) where
      own-edit : List Question
      own-edit = record { number = 9; holds = Question9 n s e } ∷ record { number = 10; holds = Question10 cap n s e k } ∷ []

      pub edit_9 : (Question9 n s e → ⊥) → First (of_edit img cap n words s e k) 9
      unfolding own-edit
      edit_9 fails = then_asked (of_sheet img cap n words) own-edit 9 (sheet_numbers img cap n words) good (inl (fails, refl))

      pub edit_10 : Question9 n s e → (Question10 cap n s e k → ⊥) → First (of_edit img cap n words s e k) 10
      unfolding own-edit
      edit_10 q fails = then_asked (of_sheet img cap n words) own-edit 10 (sheet_numbers img cap n words) good (inr (q, inl (fails, refl)))

      pub edit_0 : Question9 n s e → Question10 cap n s e k → First (of_edit img cap n words s e k) 0
      unfolding own-edit
      edit_0 q p = then_asked (of_sheet img cap n words) own-edit 0 (sheet_numbers img cap n words) good (inr (q, inr (p, refl)))

    -- and a look-up that fails 11, and that passes it.
    module _ (rule position : ℕ) where
      pub look_up_11 : (Question11 img n rule position → ⊥) → First (of_look_up img cap n words rule position) 11
      look_up_11 fails =
          then_asked (of_sheet img cap n words) (record { number = 11; holds = Question11 img n rule position } ∷ []) 11
          (sheet_numbers img cap n words)
          good
          (inl (fails, refl))

      pub look_up_0 : Question11 img n rule position → First (of_look_up img cap n words rule position) 0
      look_up_0 q =
          then_asked (of_sheet img cap n words) (record { number = 11; holds = Question11 img n rule position } ∷ []) 0
          (sheet_numbers img cap n words)
          good
          (inr (q, refl))

  -- One number.
  pub sheet_one : (j k : ℕ) → First (of_sheet img cap n words) j → First (of_sheet img cap n words) k → j ≡ k
  sheet_one j k = unique (of_sheet img cap n words) j k

  pub edit_one :
      (s e k i j : ℕ) → First (of_edit img cap n words s e k) i → First (of_edit img cap n words s e k) j → i ≡ j
  edit_one s e k i j = unique (of_edit img cap n words s e k) i j

  pub look_up_one :
      (rule position i j : ℕ) → First (of_look_up img cap n words rule position) i → First (of_look_up img cap n words rule position) j
      → i ≡ j
  look_up_one rule position i j = unique (of_look_up img cap n words rule position) i j
