-- A reading of demand 3: from the invariant and the reading's promise, the reply is the ledger's and the invariant holds again. And the
-- invariant of an empty set, which an opening and a reading refused with 14 leave. Assumes nothing.
--     inv_empty    the invariant where no pair is held and the table is zeroed
--     sheet_step   a reading that passed questions 1 to 8
--     read_step    a reading
use Rattle.grammar.proofs.Refusals.{refused_with}
use Rattle.std.specs.Prelude.{Ok, Err}
use Rattle.grammar.specs.declared.refusal.Refusal.TheVariants.{Nesting}
use Prim.Native.Nat.{ℕ, ◌+◌, ◌≤◌, ◌<◌}
use native.Mathlib.Omega.{arith}
use mathlib.Core.Path.{◌≡◌, refl, sym, ap, ◌∙◌}
use mathlib.Core.Bool.{Bool, true, false, cond, not, ◌&&◌, ◌||◌, true≢false}
use mathlib.Core.List.{List}
use mathlib.Core.Logic.{⊎_elim}
use lib.ListN.{length, drop}
use borrow.Author.Tests.{leb-true, leb-false}
use Rattle.grammar.specs.declared.Evaluation.{Evaluation}
use Rattle.grammar.specs.Image.{rules, start, body}
use Rattle.grammar.specs.Questions.{Accepted}
use Rattle.grammar.specs.Evaluates.{Fresh, bodies_only, a_node, a_pair, ev_body}
use Rattle.grammar.proofs.Determinism.{one, no_record}
use Rattle.evaluation.specs.Calls.{Pair, In, is_in, Reached, called, calls_of, bodies_of}
use Rattle.evaluation.proofs.Pairs.{is_in_lem}
use Rattle.evaluation.proofs.Counts.{count_same}
use Rattle.evaluation.proofs.Bodies.{shallower}
use Rattle.evaluation.proofs.Range.{bodies_in_range}
use Rattle.evaluation.proofs.Reach.{reached_is, is_reached}
use Rattle.records.specs.Words.{is_held, word_of}
use Rattle.packrat.specs.Over.{word_at, Over}
use Rattle.packrat.specs.Stores.{evaluations}
use Rattle.packrat.proofs.Stores.{kept_pair, over_in_range}
use Rattle.packrat.proofs.TrueTables.{over_of_fresh, fresh_of_over, bodies_over}
use Rattle.editing.specs.Text.{opened}
use Rattle.editing.specs.Table.{table_size, cleared_table}
use Rattle.editing.proofs.Loans.{cleared_long, cleared_tail, cleared_word}
use Rattle.promises.specs.Answers.{ReadAnswer, sheet_reading}
use Rattle.promises.specs.Reading.{AnswersWith, SheetRead, ReadPromise}
use Rattle.ledger.specs.Ledger.{Evaluations, Ledger, Turn, reading, reads, opened_ledger, value_in, reached_in, pairs_of}
use Rattle.ledger.specs.Ledger.{passes14, read_turn, turn}
use Rattle.grammar.proofs.Bools.{either, or_left, or_right}
use Rattle.promises.proofs.Asked.{sheet_first, sheet_one}
use Rattle.promises.proofs.Tables.{lent_table}
use Rattle.ledger.proofs.Fresh.{same_test}
use Rattle.ledger.proofs.Inv.{Inv, cap_is, text_is, short_text, lent, holds_is, not_foreign}

-- Tests of what is reached and not held.
first_on : (a b : Bool) → a && not b ≡ true → a ≡ true
first_on true b e = refl
first_on false b e = e

none_new : (a b : Bool) → a && not b ≡ false → b || a ≡ b
none_new true true e = refl
none_new true false e = e
none_new false true e = refl
none_new false false e = refl

pub inv_empty :
    (ev : Evaluations) (cap : ℕ) (img : List ℕ) (accepted : Accepted img) (text W rest : List ℕ)
    → cap ≤ 65535
    → length text ≤ cap
    → table_size (rules img) cap ≤ length W
    → drop (table_size (rules img) cap) W ≡ rest
    → Inv ev cap rest (opened_ledger img accepted text) (opened cap text) (length text) (cleared_table (rules img) cap W)
inv_empty ev cap img accepted text W rest small fits whole e =
    let lent = lent_table cap W accepted small whole in
    record {
      small = small;
      text_fits = fits;
      length_is = refl;
      bytes_are = refl;
      whole = rw (cleared_long lent) whole;
      words_are = cleared_word lent;
      held_in = λ r q f. absurd (true≢false (sym f));
      shallow = λ r q f. absurd (true≢false (sym f));
      closed = λ r q f z u y i. absurd (true≢false (sym f));
      after_table = cleared_tail lent ∙ e;
    }

module _ {ev : Evaluations} {cap : ℕ} {rest : List ℕ} {l : Ledger} {B : List ℕ} {n : ℕ} {W : List ℕ} (v : Inv ev cap rest l B n W)
    {a : ReadAnswer} {W' : List ℕ} (sr : SheetRead l.image l.text cap W a W')
  where
    abbrev z : Evaluation
    z = value_in ev l (start l.image) 0

    e : Fresh l.image l.text (a_pair (start l.image)) 0 z
    e = ev.value_is l.image l.accepted l.text (start l.image) 0 l.accepted.lawful.counts.start_rule (omega arith)

    d : Over l.image l.text W (a_pair (start l.image)) 0 z
    d =
        over_of_fresh l.image l.text W l.accepted.lawful.words (short_text v) (not_foreign v).true_words e
        l.accepted.lawful.counts.start_rule (omega arith)

    -- The pairs reached are those whose body is evaluated without records,
    reached-are : (r q : ℕ) → is_in r q (bodies_of e) ≡ reached_in ev l r q
    reached-are r q =
        same_test (is_in r q (bodies_of e)) (reached_in ev l r q) (Reached l.image l.text (record { rule = r; position = q }))
        ((λ k. is_reached e r q k), λ k. reached_is {x = record { rule = r; position = q }} e k)
        (ev.reached_is l.image l.accepted l.text r q)

    -- and the bodies evaluated over the table are those of pairs reached and not held.
    bodies-are : (r q : ℕ) → r < rules l.image → q ≤ cap → is_in r q (bodies_of d) ≡ reached_in ev l r q && not (l.held r q)
    bodies-are r q k h =
        bodies_over l.image l.text W l.accepted.lawful.words (short_text v) (not_foreign v).true_words d e
        l.accepted.lawful.counts.start_rule (omega arith) (not_foreign v).closed r q
        ∙ ap (λ (b : Bool). b && not (is_held (word_at l.image W r q))) (reached-are r q)
        ∙ ap (λ (b : Bool). reached_in ev l r q && not b) (holds_is v r q k h)

    count-is :
        evaluations l.image l.text (bodies_of d)
        ≡ pairs_of l.image l.text (λ r q. reached_in ev l r q && not (l.held r q))
    count-is =
        count_same (rules l.image) (length l.text + 1) (λ r q. is_in r q (bodies_of d))
        (λ r q. reached_in ev l r q && not (l.held r q))
        (λ r q k h. bodies-are r q k (omega (arith, h, v.text_fits)))

    -- A reached pair is one of the text, and its nesting is at most the start's.
    reached-range : (r q : ℕ) → reached_in ev l r q ≡ true → (r < rules l.image) × (q ≤ length l.text)
    reached-range r q k =
        let i = is_in_lem r q (bodies_of e) (reached-are r q ∙ k) in
        let p =
        bodies_in_range l.image l.text bodies_only l.accepted.lawful.words (λ r p x h e. absurd (no_record e)) e
        l.accepted.lawful.counts.start_rule (omega arith) (record { rule = r; position = q }) i in
        (p.rule_in, p.position_in)

    reached-nesting : (r q : ℕ) → reached_in ev l r q ≡ true → (value_in ev l r q).nesting ≤ z.nesting
    reached-nesting r q k =
        let i = is_in_lem r q (bodies_of e) (reached-are r q ∙ k) in
        let ran = shallower {x = record { rule = r; position = q }} e i in
        let p = reached-range r q k in
        let same =
        one l.image l.text bodies_only (ev_body ran.by ran.inner)
        (ev.value_is l.image l.accepted l.text r q p.0 p.1) in
        let nest = ap (λ (x : Evaluation). x.nesting) same in
        omega (arith, ran.below)

    reached-calls :
        (r q : ℕ) → reached_in ev l r q ≡ true
        → (x : Evaluation) (u : Fresh l.image l.text (a_node (body l.image r)) q x) (y : Pair)
        → In y (calls_of u)
        → reached_in ev l y.rule y.position ≡ true
    reached-calls r q k x u y i =
        (ev.reached_is l.image l.accepted l.text y.rule y.position).1
        (called {x = record { rule = r; position = q }} ((ev.reached_is l.image l.accepted l.text r q).0 k) u i)

    -- What a reading leaves where it is not too deep.
    module _ (k : z.nesting ≤ 4096) where
      given : AnswersWith l.image l.text W z (bodies_of d) a W'
      given = sr.determinate z d k

      word_after :
          (r q : ℕ) → r < rules l.image → q ≤ cap
          → word_at l.image W' r q ≡ cond (l.held r q || reached_in ev l r q) (word_of (value_in ev l r q)) 0
      word_after r q m h = go (is_in r q (bodies_of d)) refl
        where
          go :
              (b : Bool) → is_in r q (bodies_of d) ≡ b
              → word_at l.image W' r q ≡ cond (l.held r q || reached_in ev l r q) (word_of (value_in ev l r q)) 0
          go true f =
              let new = first_on (reached_in ev l r q) (l.held r q) (sym (bodies-are r q m h) ∙ f) in
              let s = given.stores.gained r q (is_in_lem r q (bodies_of d) f) in
              let p = reached-range r q new in
              let same =
              fresh_of_over l.image l.text W l.accepted.lawful.words (short_text v) (not_foreign v).true_words
              s.evaluated (ev.value_is l.image l.accepted l.text r q p.0 p.1) p.0 p.1 in
              s.word_is
              ∙ ap word_of same
              ∙ ap (λ (b : Bool). cond b (word_of (value_in ev l r q)) 0) (sym (or_right (l.held r q) (reached_in ev l r q) new))
          go false f =
              kept_pair given.stores
              (λ x i.
              (over_in_range l.image l.text W l.accepted.lawful.words (short_text v) d
              l.accepted.lawful.counts.start_rule (omega arith) x i).rule_in)
              r q m f
              ∙ v.words_are r q m h
              ∙ ap (λ (b : Bool). cond b (word_of (value_in ev l r q)) 0)
              (sym (none_new (reached_in ev l r q) (l.held r q) (sym (bodies-are r q m h) ∙ f)))

      inv-read : Inv ev cap rest (read_turn ev true l).left B n W'
      inv-read =
          record {
            small = v.small;
            text_fits = v.text_fits;
            length_is = v.length_is;
            bytes_are = v.bytes_are;
            whole = rw sr.as_long v.whole;
            words_are = word_after;
            held_in = λ r q f. ⊎_elim (λ g. v.held_in r q g) (λ g. reached-range r q g) (either (l.held r q) (reached_in ev l r q) f);
            shallow = λ r q f.
                ⊎_elim (λ g. v.shallow r q g) (λ g. let m = reached-nesting r q g in omega arith)
                (either (l.held r q) (reached_in ev l r q) f);
            closed = λ r q f x u y i.
                ⊎_elim
                (λ g. or_left (l.held y.rule y.position) (reached_in ev l y.rule y.position) (v.closed r q g x u y i))
                (λ g. or_right (l.held y.rule y.position) (reached_in ev l y.rule y.position) (reached-calls r q g x u y i))
                (either (l.held r q) (reached_in ev l r q) f);
            after_table = sr.after_table ∙ v.after_table;
          }

      answer-read : reads a ≡ (read_turn ev true l).reply
      answer-read =
          ap reads given.answer_is
          ∙ ap (λ (c : ℕ). reads (Ok (sheet_reading (length l.text) z c))) count-is

    -- And where it is.
    module _ (k : 4096 < z.nesting) where
      answer-14 : a ≡ Err Nesting
      answer-14 = refused_with a Nesting (sr.too_deep (not_foreign v) (record { value = z; evaluated = e; above = k }))

      inv-deep : Inv ev cap rest (read_turn ev false l).left B n W'
      inv-deep =
          rw (sr.zeroed Nesting answer-14, v.bytes_are, v.length_is)
          (inv_empty ev cap l.image l.accepted l.text W rest v.small v.text_fits v.whole v.after_table)

    abbrev pub Stepped : Turn → Type 0
    Stepped t = (reads a ≡ t.reply) × Inv ev cap rest t.left B n W'

    pub sheet_step : Stepped (read_turn ev (passes14 ev l) l)
    sheet_step = go (passes14 ev l) refl
      where
        go : (b : Bool) → passes14 ev l ≡ b → Stepped (read_turn ev b l)
        go true f = let k = leb-true z.nesting 4096 f in (answer-read k, inv-read k)
        go false f = let k = leb-false z.nesting 4096 f in (ap reads (answer-14 k), inv-deep k)

pub read_step :
    {ev : Evaluations} {cap : ℕ} {rest : List ℕ} {l : Ledger} {B : List ℕ} {n : ℕ} {W : List ℕ} → Inv ev cap rest l B n W
    → {a : ReadAnswer} {W' : List ℕ} → ReadPromise l.image B n W a W'
    → (reads a ≡ (turn ev cap l reading).reply) × Inv ev cap rest (turn ev cap l reading).left B n W'
unfolding turn
read_step {ev} {cap} {rest} {l} {B} {n} {W} v {a} {W'} p =
    let none : p.number ≡ 0 =
    sheet_one l.image (length B) n (length W) p.number 0 p.first
    (sheet_first l.image (length B) n (length W) l.accepted (lent v)) in
    sheet_step v (rw (text_is v, cap_is v) at (p.read none))
