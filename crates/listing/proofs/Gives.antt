-- Using and making what a step of the walk promises. Assumes nothing.
--     found, failed, halted    what an answer says: a match of that length, a failure, a refusal
--     at_once                  an answer without a row
--     and_then                 a step after a step that was answered
--     and_stop                 a refusal ends what follows
--     same_walk, same_parts    a step of what a step left is one of the same walk
--     steady, kept_on          what it may assume, and what both keep
--     smaller                  what a step of a smaller allowance may assume
use Rattle.std.specs.Prelude.{Option, Some, None, Result, Ok, Err}
use Prim.Native.Nat.{ℕ, suc, ◌+◌, ◌≤◌}
use native.Mathlib.Omega.{arith}
use mathlib.Core.Path.{◌≡◌, refl, sym, ap, ◌∙◌, subst}
use mathlib.Core.Bool.{Bool, true, false}
use mathlib.Core.List.{List, [], ◌∷◌, ◌++◌}
use lib.ListN.{length, length-append, set}
use lib.Seq.{sets}
use Rattle.grammar.specs.declared.refusal.Refusal.{Refusal}
use Rattle.rows.specs.Walk.{Walked, walked, stopped, Trail, trail, bind, after, part_v, node_v}
use Rattle.rows.specs.Bounds.{May, Bounded}
use Rattle.listing.specs.declared.state.Walk.{Walk}
use Rattle.listing.specs.Gives.{coded, Gives, Kept, Steady, nodes_of, parts_of}

-- One run of stores after another.
pub sets_both : (l : List ℕ) (c : ℕ) (ws vs : List ℕ) → sets l c (ws ++ vs) ≡ sets (sets l c ws) (c + length ws) vs
sets_both l c [] vs = ap (λ (d : ℕ). sets l d vs) (omega arith)
sets_both l c (w ∷ ws) vs = sets_both (set l c w) (suc c) ws vs ∙ ap (λ (d : ℕ). sets (sets (set l c w) (suc c) ws) d vs) (omega arith)

abbrev pub OnTrail : (n room p c : ℕ) → Trail → Type 0
OnTrail n room p c (trail a ws) = May n p c (length ws) a × (c + length ws ≤ room)

pub on_trail : {n room p c : ℕ} {o : Trail} {a : Walked} {ws : List ℕ} → Bounded n room p c o → o ≡ trail a ws → OnTrail n room p c (trail a ws)
on_trail {n} {room} {p} {c} b e = subst (OnTrail n room p c) (sym b.is ∙ e) (b.may, b.fit)

-- A match of that length.
pub record Found (n p c : ℕ) (l : List ℕ) (x : ℕ) (l' : List ℕ) (d : ℕ) (o : Trail) : Type 0 where
  pub words : List ℕ
  pub is : o ≡ trail (walked true x d) words
  pub written : l' ≡ sets l c words
  pub counted : d ≡ c + length words
  pub in_text : p + x ≤ n

pub record Failed (c : ℕ) (l l' : List ℕ) (d : ℕ) (o : Trail) : Type 0 where
  pub len : ℕ
  pub words : List ℕ
  pub is : o ≡ trail (walked false len d) words
  pub written : l' ≡ sets l c words
  pub counted : d ≡ c + length words

pub record Halted (c : ℕ) (l : List ℕ) (r : Refusal) (l' : List ℕ) (d : ℕ) (o : Trail) : Type 0 where
  pub words : List ℕ
  pub is : o ≡ trail (stopped r) words
  pub written : l' ≡ sets l c words
  pub counted : d ≡ c + length words

module _ {c : ℕ} {l : List ℕ} {r : Result (Option ℕ) Refusal} {l' : List ℕ} {d : ℕ} {o : Trail} (g : Gives c l r l' d o) where
  pub found : {n room p x : ℕ} → Bounded n room p c o → r ≡ Ok (Some x) → Found n p c l x l' d o
  found {n} {room} {p} {x} b h = go g.answer g.words g.is (sym g.given_is ∙ h) g.written g.counted
    where
      go :
          (a : Walked) (ws : List ℕ) → o ≡ trail a ws → coded a ≡ Ok (Some x) → l' ≡ sets l c ws → d ≡ c + length ws
          → Found n p c l x l' d o
      go (walked true len e) ws is given written counted =
          let t = on_trail b is in
          let same : e ≡ d = omega (arith, t.0.counted) in
          let long : len ≡ x = cc in
          record {
            words = ws;
            is = is ∙ (λ i. trail (walked true (long i) (same i)) ws);
            written = written;
            counted = counted;
            in_text = omega (arith, t.0.in_text);
          }
      go (walked false len e) ws is given written counted = absurd (let z : ◌≡◌ {A = ℕ} 0 1 = cc in omega arith)
      go (stopped k) ws is given written counted = absurd (let z : ◌≡◌ {A = ℕ} 0 1 = cc in omega arith)

  pub failed : {n room p : ℕ} → Bounded n room p c o → r ≡ Ok None → Failed c l l' d o
  failed {n} {room} {p} b h = go g.answer g.words g.is (sym g.given_is ∙ h) g.written g.counted
    where
      go :
          (a : Walked) (ws : List ℕ) → o ≡ trail a ws → coded a ≡ Ok None → l' ≡ sets l c ws → d ≡ c + length ws
          → Failed c l l' d o
      go (walked true len e) ws is given written counted = absurd (let z : ◌≡◌ {A = ℕ} 0 1 = cc in omega arith)
      go (walked false len e) ws is given written counted =
          let t = on_trail b is in
          let same : e ≡ d = omega (arith, t.0.counted) in
          record {
            len = len;
            words = ws;
            is = is ∙ ap (λ (k : ℕ). trail (walked false len k) ws) same;
            written = written;
            counted = counted;
          }
      go (stopped k) ws is given written counted = absurd (let z : ◌≡◌ {A = ℕ} 0 1 = cc in omega arith)

  pub halted : {f : Refusal} → r ≡ Err f → Halted c l f l' d o
  halted {f} h = go g.answer g.words g.is (sym g.given_is ∙ h) g.written g.counted
    where
      go :
          (a : Walked) (ws : List ℕ) → o ≡ trail a ws → coded a ≡ Err f → l' ≡ sets l c ws → d ≡ c + length ws
          → Halted c l f l' d o
      go (walked m len e) ws is given written counted = absurd (let z : ◌≡◌ {A = ℕ} 0 1 = cc in omega arith)
      go (stopped k) ws is given written counted =
          let same : k ≡ f = cc in
          record { words = ws; is = is ∙ ap (λ (j : Refusal). trail (stopped j) ws) same; written = written; counted = counted }

-- An answer without a row.
pub at_once :
    {c : ℕ} {l : List ℕ} {r : Result (Option ℕ) Refusal} {o : Trail} (a : Walked) → o ≡ trail a [] → r ≡ coded a → Gives c l r l c o
at_once a e k = record { answer = a; words = []; is = e; given_is = k; written = refl; counted = omega arith }

-- The same walk written in another way.
pub just :
    {c : ℕ} {l : List ℕ} {r : Result (Option ℕ) Refusal} {l' : List ℕ} {d : ℕ} {o q : Trail} → o ≡ q → Gives c l r l' d q → Gives c l r l' d o
just {c} {l} {r} {l'} {d} e g = subst (λ (t : Trail). Gives c l r l' d t) (sym e) g

-- A step after a step that was answered.
pub and_then :
    {c : ℕ} {l l1 : List ℕ} {d : ℕ} {r : Result (Option ℕ) Refusal} {l2 : List ℕ} {e : ℕ} {o : Trail} {m : Bool} {len : ℕ} (ws : List ℕ)
    (f : Bool → ℕ → ℕ → Trail)
    → o ≡ trail (walked m len d) ws → l1 ≡ sets l c ws → d ≡ c + length ws
    → Gives d l1 r l2 e (f m len d) → Gives c l r l2 e (bind o f)
unfolding bind after
and_then {c} {l} {l1} {d} {r} {l2} {e} ws f is written counted g =
    record {
      answer = g.answer;
      words = ws ++ g.words;
      is = ap (λ (t : Trail). bind t f) is ∙ ap (after ws) g.is;
      given_is = g.given_is;
      written =
          g.written ∙ (λ i. sets (written i) (counted i) g.words) ∙ sym (sets_both l c ws g.words);
      counted = let k = length-append ws g.words in omega (arith, g.counted);
    }

pub and_stop :
    {c : ℕ} {l : List ℕ} {r q : Result (Option ℕ) Refusal} {l' : List ℕ} {d : ℕ} {o : Trail} {k : Refusal} (f : Bool → ℕ → ℕ → Trail)
    → Gives c l r l' d o → r ≡ Err k → q ≡ Err k → Gives c l q l' d (bind o f)
unfolding bind
and_stop {k = k} f g e i =
    let h = halted g e in
    record {
      answer = stopped k;
      words = h.words;
      is = ap (λ (t : Trail). bind t f) h.is;
      given_is = i;
      written = h.written;
      counted = h.counted;
    }

-- A step of what a step left is one of the same walk, and may assume what the first step did.
module _ {w v : Walk} (kept : Kept w v) where
  pub same_walk :
      (left i p lo hi k : ℕ) {c : ℕ} {l : List ℕ} {r : Result (Option ℕ) Refusal} {l' : List ℕ} {d : ℕ}
      → Gives c l r l' d (nodes_of v left i p lo hi k c) → Gives c l r l' d (nodes_of w left i p lo hi k c)
  same_walk left i p lo hi k {c} =
      just
      (λ j. node_v (sym kept.room_is j) (sym kept.grammar_is j) (sym kept.text_is j) (sym kept.table_is j) left i p lo hi k c)

  pub same_parts :
      (left i p lo hi k : ℕ) {c : ℕ} {l : List ℕ} {r : Result (Option ℕ) Refusal} {l' : List ℕ} {d : ℕ}
      → Gives c l r l' d (parts_of v left i p lo hi k c) → Gives c l r l' d (parts_of w left i p lo hi k c)
  same_parts left i p lo hi k {c} =
      just
      (λ j. part_v (length (sym kept.text_is j)) (node_v (sym kept.room_is j) (sym kept.grammar_is j) (sym kept.text_is j) (sym kept.table_is j) left) i p lo hi k c)

  pub steady :
      {at k allowance p left : ℕ} → Steady w.text.now at k allowance → p ≤ length w.text.now → left ≤ allowance → Steady v.text.now p k left
  steady s here less = let long = ap length kept.text_is in record { here = omega arith; shallow = omega (arith, s.shallow) }

  pub kept_on : {u : Walk} → Kept u w → Kept u v
  kept_on k =
      record {
        slots_are = kept.slots_are ∙ k.slots_are;
        grammar_is = kept.grammar_is ∙ k.grammar_is;
        text_is = kept.text_is ∙ k.text_is;
        table_is = kept.table_is ∙ k.table_is;
        room_is = kept.room_is ∙ k.room_is;
      }

-- The same of a smaller allowance.
pub smaller : {text : List ℕ} {at k allowance : ℕ} → Steady text at k allowance → {left : ℕ} → left ≤ allowance → Steady text at k left
smaller s less = record { here = s.here; shallow = omega (arith, s.shallow) }
