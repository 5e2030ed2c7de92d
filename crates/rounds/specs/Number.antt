-- The number of an image as a function: questions 1 to 7 as tests, asked in their order. That it is the number of the first question
-- that fails is a theorem (proofs/Number.antt), so that every byte string has its number.
use Rattle.std.specs.Prelude.{ℕ, Bool, true, false, not, List, [], ◌∷◌, ◌++◌, get_or}
use Rattle.grammar.specs.declared.node.Node.{Node}
use Rattle.grammar.specs.declared.node.Node.TheVariants.{Empty, Text, Sequence, Choice, Star, NotPredicate, Call, Unlawful}
use Rattle.grammar.specs.Image.{node, nodes}
use Rattle.grammar.specs.Outcomes.{matches_empty}
use Rattle.grammar.specs.Questions.{Question, Question6, of_lawful}
use Rattle.grammar.specs.Tests.{every, edition_test, counts_test, size_test, words_test, once_test}
use Rattle.rounds.specs.Sets.{bit}
use Rattle.rounds.specs.Order.{descending}
use Rattle.rounds.specs.Rounds.{outcome_sets, formed_nodes}

-- Questions 1 to 6, which ask nothing of the well-formed set.
abbrev pub of_stars : List ℕ → List Question
of_stars img = of_lawful img ++ record { number = 6; holds = Question6 img } ∷ []

-- The outcome sets and the well-formed set of an image, by rounds from its highest node down.
unfoldable pub sets_of : List ℕ → List ℕ
sets_of img = outcome_sets img (descending (nodes img))

unfoldable pub formed_of : List ℕ → List Bool
formed_of img = formed_nodes img (sets_of img) (descending (nodes img))

-- "6. Does every star's body lack outcome 0?"
unfoldable pub star_test : (known : List ℕ) → Node → Bool
star_test known Empty = true
star_test known (Text t) = true
star_test known (Sequence a b) = true
star_test known (Choice a b) = true
star_test known (Star a) = not (bit matches_empty (get_or known a 0))
star_test known (NotPredicate a) = true
star_test known (Call r) = true
star_test known Unlawful = true

unfoldable pub stars_test : List ℕ → Bool
stars_test img = every (nodes img) (λ n. star_test (sets_of img) (node img n))

-- "7. Is every node in the well-formed set?"
unfoldable pub formed_test : List ℕ → Bool
formed_test img = every (nodes img) (λ n. get_or (formed_of img) n false)

-- The number where the test fails, and otherwise what the tests after it give.
abbrev pub unless : Bool → (number rest : ℕ) → ℕ
unless true number rest = rest
unless false number rest = number

-- "The image check asks 1 to 7 only and gives 0 when all pass."
unfoldable pub image_number : List ℕ → ℕ
image_number img =
    unless (edition_test img) 1
    (unless (counts_test img) 2
    (unless (size_test img) 3
    (unless (words_test img) 4
    (unless (every (nodes img) (once_test img)) 5
    (unless (stars_test img) 6
    (unless (formed_test img) 7
    0))))))
