-- An edit and the evaluations: which pairs stand, what their evaluations are on the new text, and that the pairs that their bodies call
-- stand too. Assumes nothing.
--     stands_cases, stands_stay, stands_carry    the two cases of standing
--     value_stay, value_carry                    a pair that stands has its old evaluation
--     stay_calls, carry_there                    and its body calls the old pairs
use Prim.Native.Nat.{ℕ, ◌+◌, ◌-◌, ◌≤◌, ◌<◌}
use native.Mathlib.Omega.{arith}
use mathlib.Core.Path.{◌≡◌, sym, ap, ◌∙◌, subst}
use mathlib.Core.Bool.{Bool, true, ◌&&◌}
use mathlib.Core.List.{List, ◌++◌, append_assoc, map}
use mathlib.Core.Logic.{◌⊎◌, inl, inr}
use lib.ListN.{length, take, drop, length-append, take-append-drop}
use lib.Seq.{length-take-le, take_at}
use lib.Dec.{leb}
use borrow.Author.Tests.{leb-true, le-leb}
use Rattle.grammar.specs.declared.Evaluation.{Evaluation}
use Rattle.grammar.specs.Image.{rules}
use Rattle.grammar.specs.Questions.{Accepted}
use Rattle.grammar.specs.Evaluates.{Fresh, Subject, bodies_only, a_pair}
use Rattle.grammar.proofs.Determinism.{one}
use Rattle.evaluation.specs.Calls.{Pair, calls_of}
use Rattle.evaluation.proofs.Locality.{prefix_decides, moved}
use Rattle.evaluation.proofs.CallLocality.{prefix_calls, moved_calls, shifted}
use Rattle.evaluation.proofs.Relocation.{Back, moved_back}
use Rattle.editing.specs.Text.{EditFits, new_length, edited}
use Rattle.editing.proofs.Loans.{edited_long}
use Rattle.editing.specs.Pairs.{stands_after}
use Rattle.ledger.specs.Ledger.{Evaluations}
use Rattle.grammar.proofs.Bools.{both, joined, either, or_left, or_right}

-- "q ≤ s, the pair was held at q, and q + examined ≤ s"
pub record Stays (held : ℕ → Bool) (examined : ℕ → ℕ) (s q : ℕ) : Type 0 where
  pub before : q ≤ s
  pub was_held : held q ≡ true
  pub unseen : q + examined q ≤ s

-- "s + k ≤ q ≤ n' and the pair was held at q − k + (e − s)"
pub record Carried (held : ℕ → Bool) (n s e k q : ℕ) : Type 0 where
  pub behind : s + k ≤ q
  pub in_text : q ≤ new_length n s e k
  pub was_held : held (q - k + (e - s)) ≡ true

module _ (held : ℕ → Bool) (examined : ℕ → ℕ) (n s e k q : ℕ) where
  pub stands_cases : stands_after held examined n s e k q ≡ true → Stays held examined s q ⊎ Carried held n s e k q
  unfolding stands_after
  stands_cases t = go (either _ _ t)
    where
      go :
          (leb q s && (held q && leb (q + examined q) s) ≡ true)
          ⊎ (leb (s + k) q && (leb q (new_length n s e k) && held (q - k + (e - s))) ≡ true)
          → Stays held examined s q ⊎ Carried held n s e k q
      go (inl f) =
          let a = both (leb q s) _ f in
          let b = both (held q) _ a.1 in
          inl (record { before = leb-true q s a.0; was_held = b.0; unseen = leb-true (q + examined q) s b.1 })
      go (inr f) =
          let a = both (leb (s + k) q) _ f in
          let b = both (leb q (new_length n s e k)) _ a.1 in
          inr (record { behind = leb-true (s + k) q a.0; in_text = leb-true q (new_length n s e k) b.0; was_held = b.1 })

  pub stands_stay : Stays held examined s q → stands_after held examined n s e k q ≡ true
  unfolding stands_after
  stands_stay t =
      or_left _ _
      (joined (le-leb q s t.before) (joined t.was_held (le-leb (q + examined q) s t.unseen)))

  pub stands_carry : Carried held n s e k q → stands_after held examined n s e k q ≡ true
  unfolding stands_after
  stands_carry t =
      or_right (leb q s && (held q && leb (q + examined q) s)) _
      (joined (le-leb (s + k) q t.behind)
      (joined (le-leb q (new_length n s e k) t.in_text) t.was_held))

-- An evaluation at p of a text, whose calls are these, later by so many positions.
pub record Forth (img text : List ℕ) (before : ℕ) (s : Subject) (p : ℕ) (z : Evaluation) (calls : List Pair) : Type 0 where
  pub evaluated : Fresh img text s p z
  pub calls_are : calls_of evaluated ≡ map (shifted before) calls

module _ (cap : ℕ) (text r : List ℕ) (s e : ℕ) (fits : EditFits cap (length text) s e (length r)) where
  pub front_length : length (take s text ++ r) ≡ s + length r
  front_length =
      length-append (take s text) r ∙ ap (λ (k : ℕ). k + length r) (length-take-le s text (omega arith))

  new_parts : edited text s e r ≡ (take s text ++ r) ++ drop e text
  new_parts = sym (append_assoc (take s text) r (drop e text))

  front_same : take s (edited text s e r) ≡ take s text
  front_same = take_at (take s text) (r ++ drop e text) s (length-take-le s text (omega arith))

  s_in_text : s ≤ length text
  s_in_text = omega arith

  pub s_in_after : s ≤ length (edited text s e r)
  s_in_after = let k = edited_long cap s e text r fits in omega arith

  -- Evaluations that stay and that move, in both directions.
  module _ (img : List ℕ) where
    stay-there :
        {t : Subject} {q : ℕ} {z : Evaluation} → Fresh img text t q z → q + z.examined ≤ s → Fresh img (edited text s e r) t q z
    stay-there u h =
        prefix_decides img text (edited text s e r) bodies_only s s_in_text s_in_after (sym front_same) u h

    pub stay_back :
        {t : Subject} {q : ℕ} {z : Evaluation} → Fresh img (edited text s e r) t q z → q + z.examined ≤ s → Fresh img text t q z
    stay_back u h =
        prefix_decides img (edited text s e r) text bodies_only s s_in_after s_in_text front_same u h

    pub stay_calls :
        {t : Subject} {q : ℕ} {z : Evaluation} (u : Fresh img (edited text s e r) t q z) (h : q + z.examined ≤ s)
        → calls_of (stay_back u h) ≡ calls_of u
    unfolding stay_back
    stay_calls u h =
        prefix_calls img (edited text s e r) text bodies_only s s_in_after s_in_text front_same u h

    -- Where a position behind the edit was before it.
    pub was : (q : ℕ) → s + length r ≤ q → q - length r + (e - s) ≡ e + (q - (s + length r))
    was q h = omega arith

    is-now : (q : ℕ) → s + length r ≤ q → q ≡ length (take s text ++ r) + (q - (s + length r))
    is-now q h = let k = front_length in omega arith

    is-then : (j : ℕ) → e + j ≡ length (take e text) + j
    is-then j = let k = length-take-le e text fits.within in omega arith

    pub carry_back :
        {t : Subject} {q : ℕ} {z : Evaluation} (u : Fresh img (edited text s e r) t q z) → s + length r ≤ q
        → Back img (drop e text) (length (take s text ++ r)) t (q - (s + length r)) z (calls_of u)
    carry_back {t} {q} {z} u h =
        subst
        (λ (l : List ℕ).
        (w : Fresh img l t q z) → Back img (drop e text) (length (take s text ++ r)) t (q - (s + length r)) z (calls_of w))
        (sym new_parts)
        (λ w. moved_back img (take s text ++ r) (drop e text) w (q - (s + length r)) (is-now q h))
        u

    pub carry_there :
        {t : Subject} {z : Evaluation} (j : ℕ) (w : Fresh img (drop e text) t j z) → Forth img text e t (e + j) z (calls_of w)
    carry_there {t} {z} j w =
        subst (λ (l : List ℕ). Forth img l e t (e + j) z (calls_of w)) (take-append-drop e text)
        (record {
          evaluated = moved img (take e text) (drop e text) w (e + j) (is-then j);
          calls_are =
              moved_calls img (take e text) (drop e text) w (e + j) (is-then j)
              ∙ ap (λ (k : ℕ). map (shifted k) (calls_of w)) (length-take-le e text fits.within);
        })

    -- A pair that stands has its old evaluation.
    module _ (ev : Evaluations) (accepted : Accepted img) where
      pub value_stay :
          (rule q : ℕ) → rule < rules img → q ≤ length text → q + (ev.value img accepted text rule q).examined ≤ s
          → ev.value img accepted (edited text s e r) rule q ≡ ev.value img accepted text rule q
      value_stay rule q l h k =
          one img (edited text s e r) bodies_only
          (ev.value_is img accepted (edited text s e r) rule q l (let a = s_in_after in omega arith))
          (stay-there (ev.value_is img accepted text rule q l h) k)

      pub value_carry :
          (rule q : ℕ) → rule < rules img → s + length r ≤ q → q ≤ new_length (length text) s e (length r)
          → ev.value img accepted (edited text s e r) rule q ≡ ev.value img accepted text rule (q - length r + (e - s))
      value_carry rule q l h k =
          let u = ev.value_is img accepted (edited text s e r) rule q l (rw (edited_long cap s e text r fits) k) in
          let v = ev.value_is img accepted text rule (q - length r + (e - s)) l (omega arith) in
          one img text bodies_only (carry_there (q - (s + length r)) (carry_back u h).evaluated).evaluated
          (subst (λ (p : ℕ). Fresh img text (a_pair rule) p (ev.value img accepted text rule (q - length r + (e - s)))) (was q h) v)
