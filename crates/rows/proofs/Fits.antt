-- How walks that end as `Fits` says follow each other. Assumes nothing.
use Prim.Native.Nat.{ℕ, ◌+◌, ◌≤◌, ◌<◌}
use native.Mathlib.Omega.{arith}
use mathlib.Core.Path.{◌≡◌, sym, ap, ◌∙◌, subst}
use mathlib.Core.Bool.{Bool}
use mathlib.Core.List.{List, [], ◌∷◌, ◌++◌, append-nil}
use lib.ListN.{length, length-append}
use Rattle.rows.specs.Walk.{walked, Trail, trail, bind, after}
use Rattle.rows.specs.Fits.{Fits, rows_fit, too_many}

-- No row.
pub no_row : {room c : ℕ} {m : Bool} {len : ℕ} {o : Trail} → c ≤ room → o ≡ trail (walked m len c) [] → Fits room c m len [] o
no_row {c = c} {m = m} {len = len} h e =
    rows_fit (omega arith) (e ∙ ap (λ (d : ℕ). trail (walked m len d) []) (omega arith))

module _ {room c : ℕ} where
  -- The same walk, words or length, written in another way.
  pub same_walk : {m : Bool} {len : ℕ} {ws : List ℕ} {o q : Trail} → o ≡ q → Fits room c m len ws q → Fits room c m len ws o
  same_walk {m} {len} {ws} e f = subst (λ (t : Trail). Fits room c m len ws t) (sym e) f

  pub same_words : {m : Bool} {len : ℕ} {ws vs : List ℕ} {o : Trail} → ws ≡ vs → Fits room c m len vs o → Fits room c m len ws o
  same_words {m} {len} {o = o} e f = subst (λ (t : List ℕ). Fits room c m len t o) (sym e) f

  pub same_length : {m : Bool} {len l : ℕ} {ws : List ℕ} {o : Trail} → len ≡ l → Fits room c m l ws o → Fits room c m len ws o
  same_length {m} {ws = ws} {o = o} e f = subst (λ (t : ℕ). Fits room c m t ws o) (sym e) f

  pub same_match : {m n : Bool} {len : ℕ} {ws : List ℕ} {o : Trail} → m ≡ n → Fits room c n len ws o → Fits room c m len ws o
  same_match {len = len} {ws = ws} {o = o} e f = subst (λ (t : Bool). Fits room c t len ws o) (sym e) f

  -- One walk after the other.
  pub in_turn :
      {m n : Bool} {len l : ℕ} {ws vs : List ℕ} {o : Trail} → Fits room c m len ws o → (f : Bool → ℕ → ℕ → Trail)
      → (c + length ws ≤ room → Fits room (c + length ws) n l vs (f m len (c + length ws)))
      → Fits room c n l (ws ++ vs) (bind o f)
  unfolding bind after
  in_turn {m} {n} {len} {l} {ws} {vs} {o} (rows_fit h e) f g = go (g h)
    where
      go : Fits room (c + length ws) n l vs (f m len (c + length ws)) → Fits room c n l (ws ++ vs) (bind o f)
      go (rows_fit h' e') =
          let a = length-append ws vs in
          rows_fit (omega arith)
          (ap (λ (t : Trail). bind t f) e ∙ ap (after ws) e' ∙ ap (λ (d : ℕ). trail (walked n l d) (ws ++ vs)) (omega arith))
      go (too_many h' t e') =
          let a = length-append ws vs in
          too_many (omega arith) (ws ++ t) (ap (λ (t : Trail). bind t f) e ∙ ap (after ws) e')
  in_turn {ws = ws} {vs = vs} (too_many h t e) f g =
      let a = length-append ws vs in
      too_many (omega arith) t (ap (λ (t : Trail). bind t f) e)

  -- A step that gives no row after a walk.
  pub at_end :
      {m n : Bool} {len l : ℕ} {ws : List ℕ} {o : Trail} → Fits room c m len ws o → (f : Bool → ℕ → ℕ → Trail)
      → ((d : ℕ) → f m len d ≡ trail (walked n l d) [])
      → Fits room c n l ws (bind o f)
  at_end {ws = ws} x f g = same_words (sym (append-nil ws)) (in_turn x f (λ h. no_row h (g (c + length ws))))

  -- A row before a walk, where there is a slot for it.
  pub row_first :
      {m n : Bool} {len l row : ℕ} {ws : List ℕ} {o : Trail} → c < room → Fits room (c + 1) m l ws o
      → Fits room c n len (row ∷ ws) (after (row ∷ []) (bind o (λ m l c. trail (walked n len c) [])))
  unfolding bind after
  row_first {n = n} {len = len} {row = row} {ws = ws} h (rows_fit h' e) =
      rows_fit (omega arith)
      (ap (λ (t : Trail). after (row ∷ []) (bind t (λ m l c. trail (walked n len c) []))) e
      ∙ ap (λ (vs : List ℕ). trail (walked n len (c + 1 + length ws)) (row ∷ vs)) (append-nil ws)
      ∙ ap (λ (d : ℕ). trail (walked n len d) (row ∷ ws)) (omega arith))
  row_first {n = n} {len = len} {row = row} h (too_many h' t e) =
      too_many (omega arith) (row ∷ t) (ap (λ (t : Trail). after (row ∷ []) (bind t (λ m l c. trail (walked n len c) []))) e)
