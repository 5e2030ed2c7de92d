-- Rounds over the nodes in an order, and what they leave: the outcome sets and the well-formed set, as functions of the order.
use Rattle.std.specs.Prelude.{ℕ, zero, suc, ◌*◌, ◌≤◌, ◌<◌, ◌≡◌, Bool, true, false, List, [], ◌∷◌, length, get_or, replicate}
use Rattle.grammar.specs.declared.node.Node.TheVariants.{Star}
use Rattle.grammar.specs.Image.{node, nodes}
use Rattle.grammar.specs.Outcomes.{Outcome, matches_empty, Has}
use Rattle.grammar.specs.WellFormed.{WellFormed}
use Rattle.rounds.specs.Sets.{bit}
use Rattle.rounds.specs.Visits.{gather_at, join_at}

module _ {A : Type 0} (visit : List A → ℕ → List A) where
  -- A round visits the nodes of an order one after the other; each visit sees what those before it have added.
  unfoldable pub round : (order : List ℕ) → List A → List A
  round [] known = known
  round (n ∷ order) known = round order (visit known n)

  -- The first k rounds.
  unfoldable pub rounds : ℕ → (order : List ℕ) → List A → List A
  rounds zero order known = known
  rounds (suc k) order known = round order (rounds k order known)

  -- "The rounds stop at the first that adds nothing." It comes after k rounds.
  pub record StopAfter (k : ℕ) (order : List ℕ) (known : List A) : Type 0 where
    pub adds_nothing : round order (rounds k order known) ≡ rounds k order known
    pub first : (j : ℕ) → j < k → round order (rounds j order known) ≡ rounds j order known → ⊥

-- The rounds begin with no outcome and no mark, and with a place for each of the 1,024 nodes that an image can have.
abbrev pub no_outcomes : List ℕ
no_outcomes = replicate 1024 0

abbrev pub no_marks : List Bool
no_marks = replicate 1024 false

-- What the rounds over an order leave. A round that adds something adds an outcome at least, and a node has three; so the first that
-- adds nothing comes within 3 × nodes rounds, and no later one adds anything (proofs/OutcomeRounds.antt).
unfoldable pub outcome_sets : (img order : List ℕ) → List ℕ
outcome_sets img order = rounds (gather_at img) (3 * nodes img) order no_outcomes

-- A round that adds something to the well-formed set adds a node at least.
unfoldable pub formed_nodes : (img known order : List ℕ) → List Bool
formed_nodes img known order = rounds (join_at img known) (nodes img) order no_marks

-- Sets that rounds may have left: a place for each possible node, each entry a set, nothing wrong in any, nothing past the nodes.
pub record Sound (img known : List ℕ) : Type 0 where
  pub as_long : length known ≡ 1024
  pub small : (n : ℕ) → get_or known n 0 < 8
  pub only : (n : ℕ) (o : Outcome) → bit o (get_or known n 0) ≡ true → Has img (node img n) o
  pub beyond : (n : ℕ) → nodes img ≤ n → get_or known n 0 ≡ 0

-- Marks that rounds may have left: a place for each possible node, none wrong, none past the nodes.
pub record SoundMarks (img : List ℕ) (formed : List Bool) : Type 0 where
  pub as_long : length formed ≡ 1024
  pub only : (n : ℕ) → get_or formed n false ≡ true → WellFormed img (node img n)
  pub beyond : (n : ℕ) → nodes img ≤ n → get_or formed n false ≡ false

-- What a function that makes a round answers: whether it added anything.
pub record RoundMade {A : Type 0} (made before after : List A) (added : Bool) : Type 0 where
  pub is_round : after ≡ made
  pub nothing : added ≡ false → after ≡ before
  pub something : added ≡ true → after ≡ before → ⊥

-- "These are the least sets."
pub record Outcomes (img known : List ℕ) : Type 0 where
  pub only : (n : ℕ) (o : Outcome) → bit o (get_or known n 0) ≡ true → Has img (node img n) o
  pub all : (n : ℕ) (o : Outcome) → n < nodes img → Has img (node img n) o → bit o (get_or known n 0) ≡ true

-- "Least too is the well-formed set."
pub record Formed (img : List ℕ) (formed : List Bool) : Type 0 where
  pub only : (n : ℕ) → get_or formed n false ≡ true → WellFormed img (node img n)
  pub all : (n : ℕ) → n < nodes img → WellFormed img (node img n) → get_or formed n false ≡ true

-- Question 6 of one node.
pub record StarConsumes (img : List ℕ) (n : ℕ) : Type 0 where
  pub lacks_0 : (a : ℕ) → node img n ≡ Star a → Has img (node img a) matches_empty → ⊥
