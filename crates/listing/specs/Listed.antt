-- What a listing over records promises, whatever they are: it is the walk of crate rows; "Rows past the last written stay", and a refusal
-- leaves the row slots.
use Rattle.grammar.specs.declared.refusal.Refusal.{Refusal}
use Rattle.std.specs.Prelude.{ℕ, ◌≤◌, ◌≡◌, Bool, List, ◌++◌, length, drop, Result, Ok, Err}
use Rattle.std.proofs.lemmas.List.Edits.{sets}
use Rattle.loaded.specs.declared.form.LoadedGrammar.{LoadedGrammar}
use Rattle.loaded.specs.Loaded.{Loaded}
use Rattle.rows.specs.Walk.{Walked, walked, stopped, Trail, trail, start_v}
use Rattle.rows.specs.Bounds.{Stops}

-- How many rows a walk gave, or its refusal.
abbrev pub counted : Walked → Result ℕ Refusal
counted (walked m l c) = Ok c
counted (stopped r) = Err r

-- A pass that starts with no row and the row slots `before`: what it leaves.
pub record Passed (before : List ℕ) (given : Result ℕ Refusal) (left : List ℕ) (o : Trail) : Type 0 where
  pub answer : Walked
  pub words : List ℕ
  pub is : o ≡ trail answer words
  pub given_is : given ≡ counted answer
  pub written : left ≡ sets before 0 words

pub record Written (o : Trail) (slots : List ℕ) (number : ℕ) (left : List ℕ) : Type 0 where
  pub matched : Bool
  pub len : ℕ
  pub words : List ℕ
  pub is : o ≡ trail (walked matched len number) words
  pub number_is : number ≡ length words
  pub fit : length words ≤ length slots
  pub slots_are : left ≡ words ++ drop (length words) slots

pub record NotWritten (o : Trail) (slots : List ℕ) (r : Refusal) (left : List ℕ) : Type 0 where
  pub words : List ℕ
  pub is : o ≡ trail (stopped r) words
  pub stops : Stops r
  pub same : left ≡ slots

abbrev pub ListedAs : (o : Trail) (slots : List ℕ) → Result ℕ Refusal → List ℕ → Type 0
ListedAs o slots (Ok m) left = Written o slots m left
ListedAs o slots (Err r) left = NotWritten o slots r left

-- The window (0, n) of the whole text.
abbrev pub ListedIn : (g : LoadedGrammar) (text table : List ℕ) (slots : List ℕ) → Result ℕ Refusal → List ℕ → Type 0
ListedIn g text table slots r left = ListedAs (start_v (length slots) g text table 0 (length text)) slots r left

-- The start pair of an image, by a grammar that was loaded from it.
pub record ListedOver (img text table slots : List ℕ) (r : Result ℕ Refusal) (left : List ℕ) : Type 0 where
  pub grammar : LoadedGrammar
  pub loaded : Loaded img grammar
  pub listed : ListedIn grammar text table slots r left
