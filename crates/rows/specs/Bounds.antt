-- What holds of a walk whatever the table holds: it gives no more rows than fit, what it answers stays in the text, and it is refused
-- with 12, 14 or 15 if at all.
use Rattle.grammar.specs.declared.refusal.Refusal.{Refusal}
use Rattle.grammar.specs.declared.refusal.Refusal.TheVariants.{Records, Nesting, Rows}
use Rattle.std.specs.Prelude.{ℕ, ◌+◌, ◌≤◌, ◌≡◌, List, length}
use Rattle.rows.specs.Walk.{Walked, walked, stopped, Trail, trail}

-- What a walk at the position p of a text of n bytes may answer where it gives so many rows after c rows.
pub record Ends (n p c given len count : ℕ) : Type 0 where
  pub in_text : p + len ≤ n
  pub counted : count ≡ c + given

pub data Stops : Refusal → Type 0 where
  impossible : Stops Records
  too_deep : Stops Nesting
  no_slot : Stops Rows

abbrev pub May : (n p c given : ℕ) → Walked → Type 0
May n p c given (walked m l d) = Ends n p c given l d
May n p c given (stopped r) = Stops r

-- A walk that starts with c rows where `room` fit.
pub record Bounded (n room p c : ℕ) (o : Trail) : Type 0 where
  pub answer : Walked
  pub words : List ℕ
  pub is : o ≡ trail answer words
  pub fit : c + length words ≤ room
  pub may : May n p c (length words) answer
