-- The laws of a terminal, on which every theorem about evaluations rests.
--     shape        what it gives is in the text, and it examined at least one place
--     prefix       what it examined decides it: a text with the same bytes there gives the same
--     suffix       it does not look back: what stands before its position does not matter
--     match_consumes   a match has length 1 or more
--     at_most_four     it takes no more than four bytes, and looks at no more
--     by_byte      kind 2 takes one byte, or none, and looks at one place
-- A match can be shorter than what was examined; no law says that the two are equal. Assumes nothing.
use Prim.Native.Nat.{ℕ, ◌+◌, ◌≤◌, ◌<◌}
use native.Mathlib.Omega.{arith}
use borrow.Author.Tests.{ltb-true, ltb-false, lt-ltb, le-ltb}
use mathlib.Core.Path.{◌≡◌, refl, ap, ap₂, ◌∙◌, sym}
use mathlib.Core.Bool.{Bool, true, false, ◌&&◌, cond, true≢false}
use mathlib.Core.List.{List, [], ◌∷◌, ◌++◌}
use lib.ListN.{length, get_or, take, length-append}
use lib.Dec.{ltb}
use lib.Seq.{get_or-take, get_or-append-add}
use Rattle.grammar.proofs.Bools.{both}
use Rattle.grammar.proofs.Characters.{few_later}
use Rattle.grammar.specs.declared.Evaluation.{Evaluation}
use Rattle.grammar.specs.declared.node.Terminal.{Terminal}
use Rattle.grammar.specs.declared.node.Terminal.TheVariants.{Any, Range, Folded}
use Rattle.grammar.specs.Image.{byte_at}
use Rattle.grammar.specs.Characters.{Octets, is_in}
use Rattle.grammar.specs.Terminal.{accepts, later_of, has_at, taken, alone, continued, not_taken, terminal_at}

pub record Shape (text : List ℕ) (p : ℕ) (x : Evaluation) : Type 0 where
  pub examines : 1 ≤ x.examined
  pub in_examined : x.length ≤ x.examined
  pub up_to_end : p + x.examined ≤ length text + 1
  pub consumes : x.matched ≡ true → 1 ≤ x.length
  pub in_text : p + x.length ≤ length text
  pub failure : x.matched ≡ false → x.length ≡ 0
  pub flat : x.nesting ≡ 1

-- What holds of both answers of a test holds of its answer.
by_test : (P : Evaluation → Type 0) (b : Bool) {x y : Evaluation} → (b ≡ true → P x) → (b ≡ false → P y) → P (cond b x y)
by_test P true f g = f refl
by_test P false f g = g refl

-- At the end there is no byte; before it there is one, which is tested.
pub has_not : (test : ℕ → Bool) (text : List ℕ) (k : ℕ) → length text ≤ k → has_at test text k ≡ false
has_not test text k h = ap (λ (b : Bool). b && test (byte_at text k)) (le-ltb k (length text) h)

pub has_there : (test : ℕ → Bool) (text : List ℕ) (k : ℕ) → k < length text → has_at test text k ≡ test (byte_at text k)
has_there test text k h = ap (λ (b : Bool). b && test (byte_at text k)) (lt-ltb k (length text) h)

-- A byte that passes a test is in the text.
pub has_in_text : (test : ℕ → Bool) (text : List ℕ) (k : ℕ) → has_at test text k ≡ true → k < length text
has_in_text test text k e = ltb-true k (length text) (both (ltb k (length text)) (test (byte_at text k)) e).0

taken_shape :
    (text : List ℕ) (p bytes looked : ℕ) → 1 ≤ bytes → bytes ≤ looked → p + bytes ≤ length text → p + looked ≤ length text + 1
    → Shape text p (taken bytes looked)
taken_shape text p bytes looked a b c d =
    record {
      examines = omega arith;
      in_examined = b;
      up_to_end = d;
      consumes = λ e. a;
      in_text = c;
      failure = λ e. absurd (true≢false e);
      flat = refl;
    }

not_taken_shape : (text : List ℕ) (p : ℕ) → p ≤ length text → Shape text p not_taken
not_taken_shape text p h =
    record {
      examines = omega arith;
      in_examined = omega arith;
      up_to_end = omega arith;
      consumes = λ e. absurd (true≢false (sym e));
      in_text = omega arith;
      failure = λ e. refl;
      flat = refl;
    }

continued_shape :
    (text : List ℕ) (p : ℕ) (later : List Octets) (looked : ℕ) → 1 ≤ looked → p + looked ≤ length text
    → Shape text p (continued later text p looked)
continued_shape text p [] looked h k = taken_shape text p _ _ h (omega arith) k (omega arith)
continued_shape text p (next ∷ later) looked h k =
    by_test (Shape text p) (has_at (is_in next) text (p + looked))
    (λ e. let i = has_in_text (is_in next) text (p + looked) e in continued_shape text p later (looked + 1) (omega arith) (omega arith))
    (λ e. taken_shape text p _ _ (omega arith) (omega arith) (omega arith) (omega arith))

pub shape : (t : Terminal) (text : List ℕ) (p : ℕ) → p ≤ length text → Shape text p (terminal_at t text p)
unfolding terminal_at
shape t text p h =
    by_test (Shape text p) (has_at (accepts t) text p)
    (λ e. let i = has_in_text (accepts t) text p e in continued_shape text p (later_of t (byte_at text p)) 1 (omega arith) (omega arith))
    (λ e. not_taken_shape text p h)

-- The bytes that were looked at are examined,
looked_examined : (text : List ℕ) (p : ℕ) (later : List Octets) (looked : ℕ) → looked ≤ (continued later text p looked).examined
looked_examined text p [] looked = omega arith
looked_examined text p (next ∷ later) looked =
    by_test (λ x. looked ≤ x.examined) (has_at (is_in next) text (p + looked))
    (λ e. let l = looked_examined text p later (looked + 1) in omega arith)
    (λ e. omega arith)

-- and so is the next one, where there is one to look at.
next_examined :
    (text : List ℕ) (p : ℕ) (next : Octets) (later : List Octets) (looked : ℕ) → looked < (continued (next ∷ later) text p looked).examined
next_examined text p next later looked =
    by_test (λ x. looked < x.examined) (has_at (is_in next) text (p + looked))
    (λ e. let l = looked_examined text p later (looked + 1) in omega arith)
    (λ e. omega arith)

-- One answer of a test is the same, where it was examined below m; the other is the same anyhow.
by_answer :
    (p m : ℕ) (b : Bool) (x y z : Evaluation) → (p + x.examined ≤ m → y ≡ x) → p + (cond b x z).examined ≤ m → cond b y z ≡ cond b x z
by_answer p m true x y z same l = same l
by_answer p m false x y z same l = refl

-- The two texts agree up to m, which both reach.
module _ (text other : List ℕ) (m : ℕ) (reaches : m ≤ length text) (other-reaches : m ≤ length other) (same : take m text ≡ take m other) where
  same_byte : (k : ℕ) → k < m → byte_at other k ≡ byte_at text k
  same_byte k l = sym (get_or-take m other k 0 l) ∙ ap (λ (xs : List ℕ). get_or xs k 0) (sym same) ∙ get_or-take m text k 0 l

  same_test : (test : ℕ → Bool) (k : ℕ) → k < m → has_at test other k ≡ has_at test text k
  same_test test k l =
      let in_text : ltb k (length text) ≡ true = lt-ltb k (length text) (omega arith) in
      let in-other : ltb k (length other) ≡ true = lt-ltb k (length other) (omega arith) in
      ap (λ (b : Bool). b && test (byte_at other k)) (in-other ∙ sym in_text)
      ∙ ap (λ (x : ℕ). ltb k (length text) && test x) (same_byte k l)

  continued_prefix :
      (p : ℕ) (later : List Octets) (looked : ℕ) → p + (continued later text p looked).examined ≤ m
      → continued later other p looked ≡ continued later text p looked
  continued_prefix p [] looked l = refl
  continued_prefix p (next ∷ later) looked l =
      ap (λ (b : Bool). cond b (continued later other p (looked + 1)) (alone looked))
      (same_test (is_in next) (p + looked) (let x = next_examined text p next later looked in omega arith))
      ∙ by_answer p m (has_at (is_in next) text (p + looked)) (continued later text p (looked + 1)) (continued later other p (looked + 1))
      (alone looked) (continued_prefix p later (looked + 1)) l

-- "what it examined" lies below m.
pub prefix :
    (t : Terminal) (text other : List ℕ) (p m : ℕ)
    → m ≤ length text
    → m ≤ length other
    → take m text ≡ take m other
    → p + (terminal_at t text p).examined ≤ m
    → terminal_at t other p ≡ terminal_at t text p
unfolding terminal_at
prefix t text other p m h k e l =
    let below : p < m = by_test (λ x. p + x.examined ≤ m → p < m) (has_at (accepts t) text p)
    (λ c l. let x = looked_examined text p (later_of t (byte_at text p)) 1 in omega arith)
    (λ c l. omega arith)
    l in
    let same = same_byte text other m h k e p below in
    ap₂ (λ (b : Bool) (later : List Octets). cond b (continued later other p 1) not_taken)
    (same_test text other m h k e (accepts t) p below)
    (ap (later_of t) same)
    ∙ by_answer p m (has_at (accepts t) text p) (continued (later_of t (byte_at text p)) text p 1)
    (continued (later_of t (byte_at text p)) other p 1) not_taken
    (continued_prefix text other m h k e p (later_of t (byte_at text p)) 1) l

-- A test, where something stands before the text.
moved_test :
    (test : ℕ → Bool) (before text : List ℕ) (k : ℕ) → has_at test (before ++ text) (length before + k) ≡ has_at test text k
moved_test test before text k =
    ap (λ (b : Bool). b && test (byte_at (before ++ text) (length before + k))) (moved before text k)
    ∙ ap (λ (x : ℕ). ltb k (length text) && test x) (get_or-append-add before text k 0)
  where
    moved : (before text : List ℕ) (p : ℕ) → ltb (length before + p) (length (before ++ text)) ≡ ltb p (length text)
    moved before text p = rw (length-append before text) (by_bool (ltb p (length text)) refl)
      where
        by_bool : (b : Bool) → ltb p (length text) ≡ b → ltb (length before + p) (length before + length text) ≡ ltb p (length text)
        by_bool true e =
            lt-ltb (length before + p) (length before + length text) (let h = ltb-true p (length text) e in omega arith) ∙ sym e
        by_bool false e =
            le-ltb (length before + p) (length before + length text) (let h = ltb-false p (length text) e in omega arith) ∙ sym e

continued_suffix :
    (before text : List ℕ) (p : ℕ) (later : List Octets) (looked : ℕ)
    → continued later (before ++ text) (length before + p) looked ≡ continued later text p looked
continued_suffix before text p [] looked = refl
continued_suffix before text p (next ∷ later) looked =
    ap₂ (λ (b : Bool) (x : Evaluation). cond b x (alone looked))
    (ap (has_at (is_in next) (before ++ text)) (let e : length before + p + looked ≡ length before + (p + looked) = omega arith in e)
    ∙ moved_test (is_in next) before text (p + looked))
    (continued_suffix before text p later (looked + 1))

pub suffix :
    (t : Terminal) (before text : List ℕ) (p : ℕ) → terminal_at t (before ++ text) (length before + p) ≡ terminal_at t text p
unfolding terminal_at
suffix t before text p =
    ap₂ (λ (b : Bool) (x : Evaluation). cond b x not_taken)
    (moved_test (accepts t) before text p)
    (ap (λ (byte : ℕ). continued (later_of t byte) (before ++ text) (length before + p) 1) (get_or-append-add before text p 0)
    ∙ continued_suffix before text p (later_of t (byte_at text p)) 1)

-- What holds at any position, also past the end: a match has length 1 or more, and no more bytes are taken or looked at than these.
pub record Few (most : ℕ) (x : Evaluation) : Type 0 where
  pub some_taken : x.matched ≡ true → 1 ≤ x.length
  pub few_taken : x.length ≤ most
  pub few_examined : x.examined ≤ most
  pub no_depth : x.nesting ≡ 1

continued_few :
    (text : List ℕ) (p : ℕ) (later : List Octets) (looked : ℕ) → 1 ≤ looked → Few (looked + length later) (continued later text p looked)
continued_few text p [] looked h =
    record { some_taken = λ e. h; few_taken = omega arith; few_examined = omega arith; no_depth = refl }
continued_few text p (next ∷ later) looked h =
    by_test (Few (looked + length (next ∷ later))) (has_at (is_in next) text (p + looked))
    (λ e. let f = continued_few text p later (looked + 1) (omega arith) in
    record {
      some_taken = f.some_taken;
      few_taken = omega (arith, f.few_taken);
      few_examined = omega (arith, f.few_examined);
      no_depth = f.no_depth;
    })
    (λ e. record { some_taken = λ e. omega arith; few_taken = omega arith; few_examined = omega arith; no_depth = refl })

-- Kind 2 has no later bytes, kind 1 at most three.
pub range_alone : (from to first : ℕ) → later_of (Range from to) first ≡ []
unfolding later_of
range_alone from to first = refl

pub folded_alone : (from to first : ℕ) → later_of (Folded from to) first ≡ []
unfolding later_of
folded_alone from to first = refl

few_later_of : (t : Terminal) (first : ℕ) → length (later_of t first) ≤ 3
unfolding later_of
few_later_of Any first = few_later first
few_later_of (Range from to) first = let e = ap length (range_alone from to first) in omega arith
few_later_of (Folded from to) first = let e = ap length (folded_alone from to first) in omega arith

-- "of 1 to 4 bytes" (02, R-5)
pub at_most_four : (t : Terminal) (text : List ℕ) (p : ℕ) → Few 4 (terminal_at t text p)
unfolding terminal_at
at_most_four t text p =
    by_test (Few 4) (has_at (accepts t) text p)
    (λ e. let l = few_later_of t (byte_at text p) in
    let f = continued_few text p (later_of t (byte_at text p)) 1 (omega arith) in
    record {
      some_taken = f.some_taken;
      few_taken = omega (arith, f.few_taken);
      few_examined = omega (arith, f.few_examined);
      no_depth = f.no_depth;
    })
    (λ e. record { some_taken = λ e. absurd (true≢false (sym e)); few_taken = omega arith; few_examined = omega arith; no_depth = refl })

-- A match consumes, at any position.
pub match_consumes :
    (t : Terminal) (text : List ℕ) (p : ℕ) → (terminal_at t text p).matched ≡ true → 1 ≤ (terminal_at t text p).length
match_consumes t text p = (at_most_four t text p).some_taken

-- Kind 2: "a match has length 1".
pub by_byte :
    (t : Terminal) (text : List ℕ) (p : ℕ)
    → later_of t (byte_at text p) ≡ []
    → terminal_at t text p ≡ cond (has_at (accepts t) text p) (taken 1 1) not_taken
unfolding terminal_at
by_byte t text p e = ap (λ (later : List Octets). cond (has_at (accepts t) text p) (continued later text p 1) not_taken) e
