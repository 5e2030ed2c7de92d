-- The counting pass and the writing pass are the same walk: they agree over every table. Assumes nothing.
use Rattle.std.specs.Prelude.{Option, Result, Ok, Err}
use Prim.Native.Nat.{ℕ, ◌+◌}
use native.Mathlib.Omega.{arith}
use mathlib.Core.Path.{◌≡◌, refl, sym, ap, ◌∙◌, subst}
use mathlib.Core.List.{List, ◌++◌}
use lib.ListN.{length, drop}
use lib.Seq.{sets-eq}
use Rattle.grammar.specs.declared.refusal.Refusal.{Refusal}
use Rattle.rows.specs.Walk.{Walked, walked, stopped, Trail, trail}
use Rattle.rows.specs.Bounds.{Stops, Bounded}
use Rattle.listing.specs.Gives.{coded, Gives}
use Rattle.listing.specs.Listed.{counted, Passed, NotWritten, ListedAs}
use Rattle.listing.proofs.Gives.{on_trail}

-- A pass from the walk that it is, where the walk is not refused: the count is that of the rows.
pub pass_counted :
    {n room p : ℕ} {l : List ℕ} {r : Result (Option ℕ) Refusal} {l' : List ℕ} {d : ℕ} {o : Trail} {x : Option ℕ}
    → Bounded n room p 0 o → Gives 0 l r l' d o → r ≡ Ok x → Passed l (Ok d) l' o
pass_counted {l = l} {l' = l'} {d = d} {o = o} {x = x} b g i = go g.answer g.is (sym g.given_is ∙ i)
  where
    go : (a : Walked) → o ≡ trail a g.words → coded a ≡ Ok x → Passed l (Ok d) l' o
    go (walked m len k) is given =
        let t = on_trail b is in
        let same : d ≡ k = omega (arith, t.0.counted, g.counted) in
        record { answer = walked m len k; words = g.words; is = is; given_is = ap Ok same; written = g.written }
    go (stopped k) is given = absurd (let z : ◌≡◌ {A = ℕ} 0 1 = cc in omega arith)

abbrev answer_of : Trail → Walked
answer_of (trail a ws) = a

module _ {n p : ℕ} {slots : List ℕ} {o : Trail} (b : Bounded n (length slots) p 0 o) where
  -- The counting pass is refused.
  pub refused : {l l' : List ℕ} {r : Result ℕ Refusal} {e : Refusal} → Passed l r l' o → r ≡ Err e → NotWritten o slots e slots
  refused {e = e} f i = go f.answer f.is (sym f.given_is ∙ i)
    where
      go : (a : Walked) → o ≡ trail a f.words → counted a ≡ Err e → NotWritten o slots e slots
      go (walked m len d) is given = absurd (let z : ◌≡◌ {A = ℕ} 0 1 = cc in omega arith)
      go (stopped k) is given =
          let same : k ≡ e = cc in
          record {
            words = f.words;
            is = is ∙ ap (λ (j : Refusal). trail (stopped j) f.words) same;
            stops = subst Stops same (on_trail b is).0;
            same = refl;
          }

  -- It is not: then neither is the writing pass.
  pub listed :
      {l l' : List ℕ} {r : Result ℕ Refusal} {c : ℕ} {q : Result ℕ Refusal} {left left' : List ℕ}
      → Passed l r l' o → r ≡ Ok c → Passed slots q left' o → left ≡ left' → ListedAs o slots q left
  listed {c = c} {q = q} {left = left} f i g h = subst (λ (q : Result ℕ Refusal). ListedAs o slots q left) (sym g.given_is) (go f.answer f.is (sym f.given_is ∙ i) g.answer g.is)
    where
      go : (a : Walked) → o ≡ trail a f.words → counted a ≡ Ok c → (z : Walked) → o ≡ trail z g.words → ListedAs o slots (counted z) left
      go (stopped k) is given z same = absurd (let z : ◌≡◌ {A = ℕ} 0 1 = cc in omega arith)
      go (walked m len d) is given (stopped k) same = absurd (let z : ◌≡◌ {A = ℕ} 0 1 = cc (ap answer_of (sym is ∙ same)) in omega arith)
      go (walked m len d) is given (walked m' len' e) same =
          let t = on_trail b same in
          let from-0 : 0 + length g.words ≡ length g.words = omega arith in
          record {
            matched = m';
            len = len';
            words = g.words;
            is = same;
            number_is = omega (arith, t.0.counted);
            fit = omega (arith, t.1);
            slots_are =
                h
                ∙ g.written
                ∙ sets-eq g.words slots 0 t.1
                ∙ ap (λ (k : ℕ). g.words ++ drop k slots) from-0;
          }
