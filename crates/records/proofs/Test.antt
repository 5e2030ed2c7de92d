-- The test of question 12 says what question 12 says; what the decoder answers. Assumes nothing.
use Prim.Native.Nat.{ℕ, ◌+◌}
use mathlib.Core.Path.{◌≡◌, refl, sym, ap, ◌∙◌}
use mathlib.Core.Bool.{Bool, true, false, cond, ◌||◌, true≢false}
use borrow.Author.Tests.{leb-true, le-leb, eqb-true, eq-eqb}
use lib.Dec.{eqb}
use Rattle.grammar.proofs.Bools.{both, joined}
use Rattle.records.specs.declared.Record.{Record}
use Rattle.std.specs.Prelude.{Some, None}
use Rattle.records.specs.Words.{matched_of, spare_of, nesting_of, examined_of, length_of, IsPossible, possible, record_of, SaidBy, decoded}

module _ (word at n : ℕ) where
  pub says_possible : possible word at n ≡ true → IsPossible word at n
  unfolding possible
  says_possible e =
      let t1 = both _ _ e in
      let t2 = both _ _ t1.1 in
      let t3 = both _ _ t2.1 in
      let t4 = both _ _ t3.1 in
      let t5 = both _ _ t4.1 in
      let t6 = both _ _ t5.1 in
      record {
        some_nesting = leb-true 1 (nesting_of word) t1.0;
        most_nesting = leb-true (nesting_of word) 4096 t2.0;
        in_examined = leb-true (length_of word) (examined_of word) t3.0;
        in_text = leb-true (at + length_of word) n t4.0;
        up_to_end = leb-true (at + examined_of word) (n + 1) t5.0;
        failure = λ f. failed (matched_of word) f t6.0;
        zero_bits = eqb-true (spare_of word) 0 t6.1;
      }
    where
      failed : (m : Bool) → m ≡ false → (m || eqb (length_of word) 0) ≡ true → length_of word ≡ 0
      failed true f e = absurd (true≢false f)
      failed false f e = eqb-true (length_of word) 0 e

  pub passes_test : IsPossible word at n → possible word at n ≡ true
  unfolding possible
  passes_test h =
      joined (le-leb 1 (nesting_of word) h.some_nesting)
      (joined (le-leb (nesting_of word) 4096 h.most_nesting)
      (joined (le-leb (length_of word) (examined_of word) h.in_examined)
      (joined (le-leb (at + length_of word) n h.in_text)
      (joined (le-leb (at + examined_of word) (n + 1) h.up_to_end)
      (joined (matched-or (matched_of word) h.failure) (eq-eqb (spare_of word) 0 h.zero_bits))))))
    where
      matched-or : (m : Bool) → (m ≡ false → length_of word ≡ 0) → (m || eqb (length_of word) 0) ≡ true
      matched-or true f = refl
      matched-or false f = eq-eqb (length_of word) 0 (f refl)

  pub fails_test : (IsPossible word at n → ⊥) → possible word at n ≡ false
  fails_test h = go (possible word at n) refl
    where
      go : (b : Bool) → possible word at n ≡ b → possible word at n ≡ false
      go true e = absurd (h (says_possible e))
      go false e = e

  -- What the decoder answers of an impossible word, and of a possible one.
  pub none_found : (IsPossible word at n → ⊥) → None ≡ decoded word at n
  none_found h = ap (λ (b : Bool). cond b (Some (record_of word)) None) (sym (fails_test h))

  pub found : {r : Record} → SaidBy word r → IsPossible word at n → Some r ≡ decoded word at n
  found {r} s h = ap Some said ∙ ap (λ (b : Bool). cond b (Some (record_of word)) None) (sym (passes_test h))
    where
      said : r ≡ record_of word
      said = λ i. record {
        matched = s.matched_is i;
        spare = s.spare_is i;
        nesting = s.nesting_is i;
        examined = s.examined_is i;
        length = s.length_is i;
      }
