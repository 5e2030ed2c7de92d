-- Demand 3: along every list of calls from an accepted opening, each reply is the ledger's, and what is left agrees with the ledger.
-- Assumes nothing.
--     opened_image    an accepted opening has an accepted image
--     demand_3        the claim
use Rattle.std.specs.Prelude.{Ok}
use Prim.Native.Nat.{ℕ}
use mathlib.Core.Path.{◌≡◌, refl, subst}
use mathlib.Core.Bool.{Bool, true, false}
use mathlib.Core.List.{List, ◌∷◌}
use lib.ListN.{length, drop}
use Rattle.grammar.specs.Image.{rules}
use Rattle.grammar.specs.Questions.{Accepted}
use Rattle.editing.specs.Table.{table_size}
use Rattle.promises.specs.Questions.{Question8}
use Rattle.promises.specs.Promises.{OpenPromise}
use Rattle.ledger.specs.Ledger.{Evaluations, Call, edit, reading, look_up, listing, Reply, Ledger, opened_ledger, turn, replies, left_by}
use Rattle.ledger.specs.Ledger.{passes9, passes10, passes11, passes14, passes15, edit_turn, read_turn, look_up_turn, list_turn}
use Rattle.ledger.specs.Demand.{Loan, loan, Link, edit_link, read_link, look_up_link, list_link, Trace, done, next, Agrees, Demand3}
use Rattle.promises.proofs.Asked.{sheet_passed}
use Rattle.ledger.proofs.Inv.{Inv, agrees}
use Rattle.ledger.proofs.StepRead.{inv_empty, read_step}
use Rattle.ledger.proofs.StepList.{list_step}
use Rattle.ledger.proofs.StepEdit.{edit_step}
use Rattle.ledger.proofs.StepLookUp.{look_up_step}

pub opened_image :
    {img text B W B' W' : List ℕ} {n : ℕ} → OpenPromise img text B W (Ok n) B' W'
    → Accepted img × Question8 img (length B) (length text) (length W)
opened_image {img} {text} {B} {W} p = sheet_passed img (length B) (length text) (length W) p.first

-- What an accepted opening leaves.
pub opening :
    (ev : Evaluations) {img text B W B' W' : List ℕ} {n : ℕ} (accepted : Accepted img)
    → OpenPromise img text B W (Ok n) B' W'
    → Inv ev (length B) (drop (table_size (rules img) (length B)) W) (opened_ledger img accepted text) B' n W'
opening ev {img} {text} {B} {W} accepted p =
    let q = (opened_image p).1 in
    rw (p.values.bytes_are, p.values.words_are, p.values.length_is)
    (inv_empty ev (length B) img accepted text W (drop (table_size (rules img) (length B)) W) q.short q.text_fits
    q.whole_table refl)

-- A loan, of the ledger's image, of which the invariant holds.
pub data Holds (ev : Evaluations) (cap : ℕ) (rest : List ℕ) (l : Ledger) : Loan → Type 0 where
  holds : {B W : List ℕ} {n : ℕ} → Inv ev cap rest l B n W → Holds ev cap rest l (loan l.image B n W)

-- No call changes the ledger's image.
module _ (ev : Evaluations) (cap : ℕ) (l : Ledger) where
  edit_image : (a b : Bool) (s e : ℕ) (r : List ℕ) → (edit_turn ev a b l s e r).left.image ≡ l.image
  edit_image true true s e r = refl
  edit_image true false s e r = refl
  edit_image false b s e r = refl

  read_image : (b : Bool) → (read_turn ev b l).left.image ≡ l.image
  read_image true = refl
  read_image false = refl

  look_up_image : (b : Bool) (rule q : ℕ) → (look_up_turn ev b l rule q).left.image ≡ l.image
  look_up_image true rule q = refl
  look_up_image false rule q = refl

  list_image : (a b : Bool) → (list_turn ev a b l).left.image ≡ l.image
  list_image true true = refl
  list_image true false = refl
  list_image false b = refl

  same_image : (call : Call) → (turn ev cap l call).left.image ≡ l.image
  unfolding turn
  same_image (edit s e r) = edit_image (passes9 l s e) (passes10 cap l s e r) s e r
  same_image reading = read_image (passes14 ev l)
  same_image (look_up rule q) = look_up_image (passes11 l rule q) rule q
  same_image (listing slots) = list_image (passes14 ev l) (passes15 ev l slots)

-- A call, and a list of calls.
module _ (ev : Evaluations) (cap : ℕ) (rest : List ℕ) where
  still :
      (l : Ledger) (call : Call) {B W : List ℕ} {n : ℕ} → Inv ev cap rest (turn ev cap l call).left B n W
      → Holds ev cap rest (turn ev cap l call).left (loan l.image B n W)
  still l call {B} {W} {n} v =
      subst (λ (img : List ℕ). Holds ev cap rest (turn ev cap l call).left (loan img B n W)) (same_image ev cap l call) (holds v)

  pub one_call :
      {l : Ledger} {a b : Loan} {call : Call} {reply : Reply} → Holds ev cap rest l a → Link a call reply b
      → (reply ≡ (turn ev cap l call).reply) × Holds ev cap rest (turn ev cap l call).left b
  one_call {l} (holds v) (edit_link {r = r} {s = s} {e = e} p) = let x = edit_step v s e r p in (x.0, still l (edit s e r) x.1)
  one_call {l} (holds v) (read_link p) = let x = read_step v p in (x.0, still l reading x.1)
  one_call {l} (holds v) (look_up_link {rule = rule} {position = q} p) =
      let x = look_up_step v rule q p in (x.0, still l (look_up rule q) x.1)
  one_call {l} (holds v) (list_link {R = R} p) = let x = list_step v p in (x.0, still l (listing (length R)) x.1)

  pub all_calls :
      {l : Ledger} {a b : Loan} {calls : List Call} {answers : List Reply} → Holds ev cap rest l a → Trace a calls answers b
      → (answers ≡ replies ev cap l calls) × Holds ev cap rest (left_by ev cap l calls) b
  unfolding replies left_by
  all_calls h done = (refl, h)
  all_calls {l = l} h (next {call = call} k t) =
      let x = one_call h k in
      let y = all_calls {l = (turn ev cap l call).left} x.1 t in
      ((λ i. x.0 i ∷ y.0 i), y.1)

  -- What the invariant says of a loan.
  said :
      {l : Ledger} {img B W : List ℕ} {n : ℕ} → Holds ev cap rest l (loan img B n W)
      → (img ≡ l.image) × Agrees ev cap rest l B n W
  said (holds v) = (refl, agrees v)

pub demand_3 : Demand3
demand_3 img text B₀ W₀ B W n p accepted ev calls answers img' B' W' n' t =
    let x =
    all_calls ev (length B₀) (drop (table_size (rules img) (length B₀)) W₀) {l = opened_ledger img accepted text}
    (holds (opening ev accepted p)) t in
    let y = said ev (length B₀) (drop (table_size (rules img) (length B₀)) W₀) x.1 in
    (x.0, y.0, y.1)
