-- Every byte string has its number: `image_number` is the number of the first of questions 1 to 7 that fails, 0 where none does.
-- Assumes nothing.
use Prim.Native.Nat.{ℕ, ◌<◌}
use mathlib.Core.Path.{◌≡◌, refl, sym, ◌∙◌, ap}
use mathlib.Core.Bool.{Bool, true, false, not, true≢false}
use mathlib.Core.List.{List, [], ◌∷◌}
use mathlib.Core.Logic.{inl, inr}
use lib.ListN.{get_or}
use borrow.Author.Tests.{not-true}
use Rattle.grammar.specs.declared.node.Node.{Node}
use Rattle.grammar.specs.declared.node.Node.TheVariants.{Empty, Text, Sequence, Choice, Star, NotPredicate, Call, Unlawful}
use Rattle.grammar.specs.Image.{node, nodes}
use Rattle.grammar.specs.Outcomes.{Has, matches_empty}
use Rattle.grammar.specs.Questions.{Question, First, of_image, Question1, Question2, Question3, Question4, Question5, Question6, Question7}
use Rattle.grammar.specs.Tests.{every, edition_test, counts_test, size_test, words_test, once_test}
use Rattle.grammar.proofs.References.{Refers, refers}
use Rattle.grammar.proofs.Tests.{below, all_below, edition_asked, edition_passes, counts_asked, counts_passes, size_asked, size_passes}
use Rattle.grammar.proofs.Tests.{words_asked, words_passes, once_asked, once_passes}
use Rattle.rounds.specs.Sets.{bit}
use Rattle.rounds.specs.Order.{descending}
use Rattle.rounds.specs.Rounds.{Outcomes, Formed}
use Rattle.rounds.specs.Number.{sets_of, formed_of, star_test, stars_test, formed_test, unless, image_number}
use Rattle.rounds.proofs.OutcomeRounds.{outcome_sets_least}
use Rattle.rounds.proofs.FormedRounds.{formed_nodes_least}
use Rattle.rounds.proofs.Orders.{descending_visits}

module _ (img : List ℕ) (counts : Question2 img) (words : Question4 img) where
  pub least_sets : Outcomes img (sets_of img)
  unfolding sets_of
  least_sets = outcome_sets_least img (descending (nodes img)) counts words (descending_visits (nodes img))

  pub least_nodes : Formed img (formed_of img)
  unfolding formed_of
  least_nodes = formed_nodes_least img (sets_of img) (descending (nodes img)) counts words least_sets (descending_visits (nodes img))

  stars_asked : stars_test img ≡ true → Question6 img
  unfolding stars_test star_test
  stars_asked e = record { stars = go }
    where
      go : (n a : ℕ) → n < nodes img → node img n ≡ Star a → Has img (node img a) matches_empty → ⊥
      go n a l s h =
          let lacks = below (nodes img) (λ n. star_test (sets_of img) (node img n)) e n l in
          let in-nodes : Refers img (Star a) = rw s at (refers img words n l) in
          let has_not = not-true (bit matches_empty (get_or (sets_of img) a 0)) (sym (ap (star_test (sets_of img)) s) ∙ lacks) in
          true≢false (sym (least_sets.all a matches_empty in-nodes h) ∙ has_not)

  stars_passes : Question6 img → stars_test img ≡ true
  unfolding stars_test star_test
  stars_passes q = all_below (nodes img) (λ n. star_test (sets_of img) (node img n)) (λ n l. by-node n l (node img n) refl)
    where
      lacking : (n a : ℕ) → n < nodes img → node img n ≡ Star a → (b : Bool) → bit matches_empty (get_or (sets_of img) a 0) ≡ b → not b ≡ true
      lacking n a l e true h = absurd (q.stars n a l e (least_sets.only a matches_empty h))
      lacking n a l e false h = refl

      by-node : (n : ℕ) → n < nodes img → (m : Node) → node img n ≡ m → star_test (sets_of img) m ≡ true
      by-node n l Empty e = refl
      by-node n l (Text t) e = refl
      by-node n l (Sequence a b) e = refl
      by-node n l (Choice a b) e = refl
      by-node n l (Star a) e = lacking n a l e (bit matches_empty (get_or (sets_of img) a 0)) refl
      by-node n l (NotPredicate a) e = refl
      by-node n l (Call r) e = refl
      by-node n l Unlawful e = refl

  formed_asked : formed_test img ≡ true → Question7 img
  unfolding formed_test
  formed_asked e =
      record { every_node = λ n l. least_nodes.only n (below (nodes img) (λ n. get_or (formed_of img) n false) e n l) }

  formed_passes : Question7 img → formed_test img ≡ true
  unfolding formed_test
  formed_passes q =
      all_below (nodes img) (λ n. get_or (formed_of img) n false) (λ n l. least_nodes.all n l (q.every_node n l))

-- A question that is asked by a test.
asked :
    (q : Question) (qs : List Question) (test : Bool) (rest : ℕ)
    → (test ≡ true → q.holds)
    → (q.holds → test ≡ true)
    → (q.holds → First qs rest)
    → First (q ∷ qs) (unless test q.number rest)
asked q qs true rest holds passes further = inr (holds refl, further (holds refl))
asked q qs false rest holds passes further = inl ((λ h. true≢false (sym (passes h))), refl)

abbrev one : ℕ → Type 0 → Question
one k holds = record { number = k; holds = holds }

module _ (img : List ℕ) where
  -- The questions from each one on, and what the tests from it on give.
  abbrev from7 : List Question
  from7 = one 7 (Question7 img) ∷ []

  abbrev from6 : List Question
  from6 = one 6 (Question6 img) ∷ from7

  abbrev from5 : List Question
  from5 = one 5 (Question5 img) ∷ from6

  abbrev from4 : List Question
  from4 = one 4 (Question4 img) ∷ from5

  abbrev from3 : List Question
  from3 = one 3 (Question3 img) ∷ from4

  abbrev from2 : List Question
  from2 = one 2 (Question2 img) ∷ from3

  abbrev number7 : ℕ
  number7 = unless (formed_test img) 7 0

  abbrev number6 : ℕ
  number6 = unless (stars_test img) 6 number7

  abbrev number5 : ℕ
  number5 = unless (every (nodes img) (once_test img)) 5 number6

  abbrev number4 : ℕ
  number4 = unless (words_test img) 4 number5

  abbrev number3 : ℕ
  number3 = unless (size_test img) 3 number4

  abbrev number2 : ℕ
  number2 = unless (counts_test img) 2 number3

  asked_7 : Question2 img → Question4 img → First from7 number7
  asked_7 counts words =
      asked (one 7 (Question7 img)) [] (formed_test img) 0 (formed_asked img counts words) (formed_passes img counts words) (λ h. refl)

  asked_6 : Question2 img → Question4 img → First from6 number6
  asked_6 counts words =
      asked (one 6 (Question6 img)) from7 (stars_test img) number7 (stars_asked img counts words) (stars_passes img counts words)
      (λ h. asked_7 counts words)

  asked_5 : Question2 img → Question4 img → First from5 number5
  asked_5 counts words =
      asked (one 5 (Question5 img)) from6 (every (nodes img) (once_test img)) number6 (once_asked img) (once_passes img)
      (λ h. asked_6 counts words)

  asked_4 : Question2 img → First from4 number4
  asked_4 counts =
      asked (one 4 (Question4 img)) from5 (words_test img) number5 (words_asked img) (words_passes img) (λ words. asked_5 counts words)

  asked_3 : Question2 img → First from3 number3
  asked_3 counts =
      asked (one 3 (Question3 img)) from4 (size_test img) number4 (size_asked img) (size_passes img) (λ h. asked_4 counts)

  asked_2 : First from2 number2
  asked_2 = asked (one 2 (Question2 img)) from3 (counts_test img) number3 (counts_asked img) (counts_passes img) (λ counts. asked_3 counts)

  -- The number of the paper's questions, for every byte string.
  pub image_number_lem : First (of_image img) (image_number img)
  unfolding image_number
  image_number_lem = asked (one 1 (Question1 img)) from2 (edition_test img) number2 (edition_asked img) (edition_passes img) (λ h. asked_2)
