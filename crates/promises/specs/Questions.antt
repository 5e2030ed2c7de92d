-- Questions 8 to 11, and the questions of each call in order. "Every call checks the image (1 to 7) and the loan (8), then its own."
use Rattle.std.specs.Prelude.{ℕ, ◌≤◌, ◌<◌, List, [], ◌∷◌, ◌++◌}
use Rattle.grammar.specs.Image.{rules}
use Rattle.grammar.specs.Questions.{Question, of_image}
use Rattle.editing.specs.Text.{new_length}
use Rattle.editing.specs.Table.{table_size}

-- "8. Is cap at most 65,535, the text at most cap, the table wholly lent?" cap is the length of the lent buffer, n the length of the
-- text to open or the lent length, and words the number of lent words.
pub record Question8 (img : List ℕ) (cap n words : ℕ) : Type 0 where
  pub short : cap ≤ 65535
  pub text_fits : n ≤ cap
  pub whole_table : table_size (rules img) cap ≤ words

-- "9. Edit: s ≤ e ≤ n?"
pub record Question9 (n s e : ℕ) : Type 0 where
  pub ordered : s ≤ e
  pub in_text : e ≤ n

-- "10. Edit: n' ≤ cap?"
pub record Question10 (cap n s e k : ℕ) : Type 0 where
  pub room : new_length n s e k ≤ cap

-- "11. Look-up: rule below rules, position ≤ n?"
pub record Question11 (img : List ℕ) (n rule position : ℕ) : Type 0 where
  pub rule_in : rule < rules img
  pub position_in : position ≤ n

-- The questions of an opening and those in front of a reading or a listing, of an edit, and of a look-up.
abbrev pub of_sheet : (img : List ℕ) (cap n words : ℕ) → List Question
of_sheet img cap n words = of_image img ++ record { number = 8; holds = Question8 img cap n words } ∷ []

abbrev pub of_edit : (img : List ℕ) (cap n words s e k : ℕ) → List Question
of_edit img cap n words s e k =
    of_sheet img cap n words
    ++ record { number = 9; holds = Question9 n s e } ∷ record { number = 10; holds = Question10 cap n s e k } ∷ []

abbrev pub of_look_up : (img : List ℕ) (cap n words rule position : ℕ) → List Question
of_look_up img cap n words rule position =
    of_sheet img cap n words ++ record { number = 11; holds = Question11 img n rule position } ∷ []
