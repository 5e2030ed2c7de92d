-- What a listing leaves to be shown: from the reading's answer and words, and the walk's answer, to the listing's promise. Assumes nothing.
--     list_refused    where the reading is refused
--     list_rows       where it is answered and the walk wrote rows
--     list_stopped    where it is answered and the walk stopped
use Rattle.std.specs.Prelude.{Ok, Err}
use Prim.Native.Nat.{ℕ, ◌≤◌}
use native.Mathlib.Omega.{arith}
use mathlib.Core.Path.{◌≡◌, refl, ap, ◌∙◌, subst}
use mathlib.Core.List.{List}
use lib.ListN.{length, take}
use lib.Dec.{eqb}
use lib.Seq.{length-take-le}
use Rattle.grammar.specs.declared.refusal.Refusal.{Refusal}
use Rattle.grammar.specs.Refusals.{number}
use Rattle.grammar.specs.Questions.{Accepted}
use Rattle.packrat.specs.Model.{answered, refused, Out, out}
use Rattle.packrat.specs.Session.{start_run}
use Rattle.listing.specs.Listed.{ListedOver}
use Rattle.loaded.proofs.LoadedImage.{image_loaded}
use Rattle.promises.specs.declared.SheetReading.{SheetReading}
use Rattle.promises.specs.Answers.{ReadAnswer, ListAnswer, sheet_reading}
use Rattle.promises.specs.Questions.{Question8}
use Rattle.promises.specs.Listing.{SheetListed, ListPromise}
use Rattle.promises.specs.Run.{answer_of, words_of, stopped_words}
use Rattle.promises.proofs.Asked.{sheet_first}
use Rattle.promises.proofs.SheetLists.{refused_listed, written_listed, stopped_listed, lists_done}

module _ (img B : List ℕ) (n : ℕ) (W R : List ℕ) (known : Accepted img × Question8 img (length B) n (length W)) where
  accepted : Accepted img
  accepted = known.0

  lent : Question8 img (length B) n (length W)
  lent = known.1

  abbrev pub text : List ℕ
  text = take n B

  fits : length text ≤ length B
  fits = rw (length-take-le n B lent.text_fits) lent.text_fits

  done : {a : ListAnswer} {W' R' : List ℕ} → SheetListed img text (length B) W R a W' R' → ListPromise img B n W R a W' R'
  done = lists_done img B n W R (sheet_first img (length B) n (length W) accepted lent)

  module _ {reading : ReadAnswer} {words : List ℕ} (is : reading ≡ answer_of (length text) (start_run img text W 0))
      (words_are : words ≡ words_of img (length B) (start_run img text W 0))
    where
      pub list_refused : {r : Refusal} → reading ≡ Err r → ListPromise img B n W R (Err r) words R
      list_refused {r} e = go (start_run img text W 0) refl
        where
          go : (o : Out) → start_run img text W 0 ≡ o → ListPromise img B n W R (Err r) words R
          go (out (answered z) t count) f = absurd (let x : ◌≡◌ {A = ℕ} 0 1 = cc (e, is, ap (answer_of (length text)) f) in omega arith)
          go (out (refused k) t count) f =
              let same : k ≡ r = cc (e, is, ap (answer_of (length text)) f) in
              rw (← same, words_are ∙ ap (words_of img (length B)) f)
              (done (refused_listed img text (length B) W R accepted lent.short fits lent.whole_table (image_loaded img accepted.lawful) f))

      pub list_rows :
          {x : SheetReading} {k : ℕ} {R' : List ℕ} → reading ≡ Ok x → ListedOver img text words R (Ok k) R'
          → ListPromise img B n W R (Ok (record { reading = x; rows = k })) words R'
      list_rows {x} {k} {R'} e w = go (start_run img text W 0) refl
        where
          go : (o : Out) → start_run img text W 0 ≡ o → ListPromise img B n W R (Ok (record { reading = x; rows = k })) words R'
          go (out (answered z) t count) f =
              let same : sheet_reading (length text) z count ≡ x = cc (e, is, ap (answer_of (length text)) f) in
              let left : words ≡ t = words_are ∙ ap (words_of img (length B)) f in
              let there : ListedOver img text t R (Ok k) R' = subst (λ (u : List ℕ). ListedOver img text u R (Ok k) R') left w in
              let y = there.listed in
              rw (← same, left, y.number_is, y.slots_are)
              (done (written_listed img text (length B) W R accepted lent.short fits lent.whole_table there.loaded f y.is y.fit))
          go (out (refused j) t count) f = absurd (let x : ◌≡◌ {A = ℕ} 0 1 = cc (e, is, ap (answer_of (length text)) f) in omega arith)

      pub list_stopped :
          {x : SheetReading} {r : Refusal} {R' : List ℕ} → reading ≡ Ok x → ListedOver img text words R (Err r) R'
          → ListPromise img B n W R (Err r) (stopped_words (eqb (number r) 15) img (length B) words) R'
      list_stopped {x} {r} {R'} e w = go (start_run img text W 0) refl
        where
          go : (o : Out) → start_run img text W 0 ≡ o → ListPromise img B n W R (Err r) (stopped_words (eqb (number r) 15) img (length B) words) R'
          go (out (answered z) t count) f =
              let left : words ≡ t = words_are ∙ ap (words_of img (length B)) f in
              let there : ListedOver img text t R (Err r) R' = subst (λ (u : List ℕ). ListedOver img text u R (Err r) R') left w in
              let y = there.listed in
              rw (left, y.same)
              (done (stopped_listed img text (length B) W R accepted lent.short fits lent.whole_table there.loaded f y.is y.stops))
          go (out (refused j) t count) f = absurd (let x : ◌≡◌ {A = ℕ} 0 1 = cc (e, is, ap (answer_of (length text)) f) in omega arith)
