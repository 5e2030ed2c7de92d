-- What a reading makes of the start pair's run over the lent words keeps the reading's promise, whatever the words are.
-- Assumes nothing.
--     sheet_read       of a text in a buffer of cap bytes, where questions 1 to 8 hold
--     reads_are        of the first n bytes of a buffer
--     reads_unasked    where one of questions 1 to 8 fails
use Rattle.grammar.specs.Refusals.{number_in}
use Rattle.grammar.specs.declared.refusal.Refusal.{Refusal}
use Rattle.grammar.specs.declared.refusal.Refusal.TheVariants.{Records, Nesting}
use Rattle.grammar.specs.Refusals.{number}
use Rattle.grammar.proofs.Refusals.{number_bounds}
use Rattle.std.specs.Prelude.{Ok, Err}
use Prim.Native.Nat.{ℕ, ◌+◌, ◌≤◌, ◌<◌, ◌^◌}
use native.Mathlib.Omega.{arith}
use native.Mathlib.Nat.{mul-le-mul}
use mathlib.Core.Path.{◌≡◌, refl, sym, ap, ◌∙◌, subst}
use mathlib.Core.List.{List, ◌++◌}
use mathlib.Core.Logic.{◌⊎◌}
use lib.ListN.{length, take, drop, replicate}
use lib.Seq.{length-take-le}
use Rattle.grammar.specs.declared.Evaluation.{Evaluation}
use Rattle.grammar.specs.Image.{rules, start}
use Rattle.grammar.specs.Questions.{First, Accepted}
use Rattle.grammar.specs.Evaluates.{a_pair}
use Rattle.evaluation.specs.Calls.{Pair, is_in, bodies_of}
use Rattle.evaluation.proofs.Counts.{count_most}
use Rattle.records.proofs.Slots.{slot_in, size_up}
use Rattle.packrat.specs.Model.{Answer, answered, refused, Out, out, node_m}
use Rattle.reading.specs.Plain.{TooDeep}
use Rattle.packrat.specs.Over.{Over}
use Rattle.packrat.specs.Stores.{Room, evaluations}
use Rattle.packrat.specs.Framed.{Fits, Framed}
use Rattle.packrat.proofs.Framed.{pair_framed, pair_impossible}
use Rattle.packrat.proofs.Stores.{determined}
use Rattle.packrat.proofs.TrueReads.{start_deep, only_14}
use Rattle.packrat.specs.Session.{start_run}
use Rattle.editing.specs.Table.{table_size, TableLent}
use Rattle.editing.proofs.Loans.{cleared_long, cleared_tail}
use Rattle.promises.specs.declared.SheetReading.{SheetReading}
use Rattle.promises.specs.Answers.{sheet_reading}
use Rattle.promises.specs.Questions.{Question8, of_sheet}
use Rattle.promises.specs.Reading.{NotForeign, AnswersWith, SheetRead, ReadPromise}
use Rattle.promises.specs.Run.{answer_of, words_of}
use Rattle.promises.proofs.Asked.{sheet_first}
use Rattle.promises.proofs.Tables.{lent_table, same_rest}

module _ (img text : List ℕ) (cap : ℕ) (W : List ℕ) (accepted : Accepted img) (small : cap ≤ 65535) (fits : length text ≤ cap)
    (whole : table_size (rules img) cap ≤ length W)
  where
    short : length text ≤ 65535
    short = omega arith

    room : Room img text W
    room = let a = size_up (rules img) (length text) cap fits in omega arith

    -- What holds of the run over every table.
    framed : Framed img text W 0 (start_run img text W 0)
    framed = pair_framed img text accepted.lawful.words 4096 (start img) 0 accepted.lawful.counts.start_rule (omega arith) W 0

    -- No slot of the text is after the table.
    rest-same : drop (table_size (rules img) cap) framed.after ≡ drop (table_size (rules img) cap) W
    rest-same =
        same_rest (table_size (rules img) cap) framed.after W framed.as_long
        (λ j h.
        framed.kept j
        (λ r q l k e. let s = slot_in (rules img) cap r q l (omega arith) in omega arith))

    lent : TableLent (rules img) cap framed.after
    lent = lent_table cap framed.after accepted small (omega (arith, framed.as_long))

    -- What an answer and words that are made of the run say, by cases of its answer.
    abbrev Made : Answer → Type 0
    Made x = start_run img text W 0 ≡ out x framed.after framed.counted

    few : (ps : List Pair) → evaluations img text ps < 2 ^ 63
    few ps =
        let a = count_most (rules img) (length text + 1) (λ r q. is_in r q ps) in
        let b : length text + 1 ≤ 65536 = omega arith in
        let c = mul-le-mul accepted.lawful.counts.few_rules b in
        omega arith

    determinate :
        (z : Evaluation) (d : Over img text W (a_pair (start img)) 0 z) → z.nesting ≤ 4096
        → AnswersWith img text W z (bodies_of d) (answer_of (length text) (start_run img text W 0)) (words_of img cap (start_run img text W 0))
    determinate z d k =
        let x =
        determined img text W accepted.lawful.words short room d accepted.lawful.counts.start_rule (omega arith) 4096
        (omega arith) k 0 in
        let count : x.counted ≡ evaluations img text (bodies_of d) =
        let a = x.counts (omega arith) in let b = few (bodies_of d) in omega arith in
        record {
          answer_is =
              ap (answer_of (length text)) x.is
              ∙ ap (λ (c : ℕ). Ok (sheet_reading (length text) z c)) count;
          stores = rw x.is x.stores;
        }

    deep :
        NotForeign img text W → TooDeep img text
        → number_in (answer_of (length text) (start_run img text W 0)) ≡ 14
    deep f t =
        let x = start_deep img text W accepted short f.true_words t.evaluated t.above 0 in
        ap (λ (o : Out). number_in (answer_of (length text) o)) x.is

    not-12 : NotForeign img text W → (k : Refusal) → Made (refused k) → k ≡ Nesting
    not-12 f k e =
        only_14 img text W accepted short f.true_words (start img) 0 accepted.lawful.counts.start_rule (omega arith) 4096
        (omega arith) 0 k
        (record { after = framed.after; counted = framed.counted; is = e })

    pub sheet_read : SheetRead img text cap W (answer_of (length text) (start_run img text W 0)) (words_of img cap (start_run img text W 0))
    sheet_read = go framed.answer framed.is framed.fits
      where
        go :
            (x : Answer) → Made x → Fits (length text) 0 x
            → SheetRead img text cap W (answer_of (length text) (start_run img text W 0)) (words_of img cap (start_run img text W 0))
        go (answered z) e w =
            record {
              as_long = rw e framed.as_long;
              after_table = rw e rest-same;
              in_text = λ x f. let g : x ≡ sheet_reading (length text) z framed.counted = cc (e, f) in let l = ap (λ (y : SheetReading). y.length) g in omega (arith, w.in_text);
              numbers = λ k f. absurd (let z : ◌≡◌ {A = ℕ} 0 1 = cc (ap (answer_of (length text)) e, f) in omega arith);
              zeroed = λ k f. absurd (let z : ◌≡◌ {A = ℕ} 0 1 = cc (ap (answer_of (length text)) e, f) in omega arith);
              impossible = λ h p. ap (λ (o : Out). number_in (answer_of (length text) o)) (pair_impossible img text (node_m img text 4096) 4096 (start img) 0 W 0 h p);
              determinate = determinate;
              too_deep = deep;
              never_12 = λ n f. let z = sym (ap (λ (o : Out). number_in (answer_of (length text) o)) e) ∙ f in omega arith;
            }
        go (refused k) e w =
            record {
              as_long = rw e (cleared_long lent ∙ framed.as_long);
              after_table = rw e (cleared_tail lent ∙ rest-same);
              in_text = λ x f. absurd (let z : ◌≡◌ {A = ℕ} 0 1 = cc (ap (answer_of (length text)) e, f) in omega arith);
              numbers = λ j f. let g : k ≡ j = cc (ap (answer_of (length text)) e, f) in subst (λ (i : Refusal). (i ≡ Records) ⊎ (i ≡ Nesting)) g w;
              zeroed = λ j f. rw e (ap (λ (l : List ℕ). replicate (table_size (rules img) cap) 0 ++ l) rest-same);
              impossible = λ h p. ap (λ (o : Out). number_in (answer_of (length text) o)) (pair_impossible img text (node_m img text 4096) 4096 (start img) 0 W 0 h p);
              determinate = determinate;
              too_deep = deep;
              never_12 = λ n f. let g : number k ≡ 12 = sym (ap (λ (o : Out). number_in (answer_of (length text) o)) e) ∙ f in let h = ap number (not-12 n k e) in omega arith;
            }

-- The same as the whole promise, of the first n bytes of a buffer.
pub reads_are :
    (img B : List ℕ) (n : ℕ) (W : List ℕ) → Accepted img → Question8 img (length B) n (length W)
    → ReadPromise img B n W (answer_of n (start_run img (take n B) W 0)) (words_of img (length B) (start_run img (take n B) W 0))
reads_are img B n W accepted q =
    let long : length (take n B) ≡ n = length-take-le n B q.text_fits in
    let read =
    sheet_read img (take n B) (length B) W accepted q.short (rw long q.text_fits) q.whole_table in
    record {
      number = 0;
      first = sheet_first img (length B) n (length W) accepted q;
      refused = λ h. absurd (omega arith);
      read = λ e.
          subst
          (λ (k : ℕ).
          SheetRead img (take n B) (length B) W (answer_of k (start_run img (take n B) W 0))
          (words_of img (length B) (start_run img (take n B) W 0)))
          long
          read;
    }

-- A reading that fails one of questions 1 to 8.
pub reads_unasked :
    (img B : List ℕ) (n : ℕ) (W : List ℕ) (r : Refusal) → First (of_sheet img (length B) n (length W)) (number r)
    → ReadPromise img B n W (Err r) W
reads_unasked img B n W r f =
    record { number = number r; first = f; refused = λ l. (refl, refl); read = λ e. absurd (let b = number_bounds r in omega arith) }
