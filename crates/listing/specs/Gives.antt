-- What a step of the walk promises: its answer, the row slots and the count are those of the walk as a function (crate rows).
use Rattle.grammar.specs.declared.refusal.Refusal.{Refusal}
use Rattle.std.specs.Prelude.{ℕ, ◌+◌, ◌≤◌, ◌≡◌, Bool, true, false, List, length, Option, Some, None, Result, Ok, Err}
use Rattle.std.proofs.lemmas.List.Edits.{sets}
use Rattle.grammar.specs.declared.Evaluation.{Evaluation}
use Rattle.grammar.specs.declared.node.Node.{Node}
use Rattle.rows.specs.Walk.{Walked, walked, stopped, Trail, trail, Walker, part_v, node_v, rule_v, inside_v, start_v}
use Rattle.listing.specs.declared.slots.Window.{Window}
use Rattle.listing.specs.declared.state.Walk.{Walk}

-- An answer: the length of a match, none for a failure, or the refusal.
abbrev pub length_or : Bool → ℕ → Option ℕ
length_or true l = Some l
length_or false l = None

abbrev pub coded : Walked → Result (Option ℕ) Refusal
coded (walked m l c) = Ok (length_or m l)
coded (stopped r) = Err r

abbrev pub told_length : Evaluation → Option ℕ
told_length x = length_or x.matched x.length

-- A walk that starts with c rows and the row slots `before`: what it leaves.
pub record Gives (c : ℕ) (before : List ℕ) (given : Result (Option ℕ) Refusal) (left : List ℕ) (count : ℕ) (o : Trail) : Type 0 where
  pub answer : Walked
  pub words : List ℕ
  pub is : o ≡ trail answer words
  pub given_is : given ≡ coded answer
  pub written : left ≡ sets before c words
  pub counted : count ≡ c + length words

-- The walks of crate rows over the grammar, the text and the table of a walk w, with its room.
abbrev pub nodes_of : Walk → (left : ℕ) → Walker
nodes_of w left = node_v w.room w.grammar.now w.text.now w.table.now left

abbrev pub parts_of : Walk → (left : ℕ) → Walker
parts_of w left = part_v (length w.text.now) (nodes_of w left)

abbrev pub rules_of : Walk → (left root : ℕ) → Walker
rules_of w left root = rule_v w.room w.grammar.now w.text.now w.table.now left root

-- The walk of the start pair over the whole text.
abbrev pub start_of : Walk → Trail
start_of w = start_v w.room w.grammar.now w.text.now w.table.now 0 (length w.text.now)

abbrev pub inside_of : Walk → (left root : ℕ) → Node → (at lo hi around count : ℕ) → Trail
inside_of w left root m = inside_v w.room w.grammar.now w.text.now w.table.now left root m

-- A step at a position, with a window and so many rows around it, that leaves the walk v: it is that walk of crate rows.
abbrev pub Walks :
    (w : Walk) → Result (Option ℕ) Refusal → (v : Walk) → ((at lo hi around count : ℕ) → Trail) → (at : ℕ) → Window → (around : ℕ) → Type 0
Walks w given v o at t k = Gives w.count w.rows.now given v.rows.now v.count (o at t.lo t.hi k w.count)

-- The window of a step that asks none.
abbrev pub nowhere : Window
nowhere = record { lo = 0; hi = 0 }

-- What a step keeps: the slots that are lent, the grammar, the text, the table and the room.
pub record Kept (w v : Walk) : Type 0 where
  pub slots_are : v.rows.ghost_name ≡ w.rows.ghost_name
  pub grammar_is : v.grammar.now ≡ w.grammar.now
  pub text_is : v.text.now ≡ w.text.now
  pub table_is : v.table.now ≡ w.table.now
  pub room_is : v.room ≡ w.room

-- What a step may assume: a position in the text, and an allowance under which the depth fits its field.
pub record Steady (text : List ℕ) (at depth allowance : ℕ) : Type 0 where
  pub here : at ≤ length text
  pub shallow : depth + allowance ≤ 4097
