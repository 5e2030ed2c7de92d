-- An edit of demand 3: from the invariant and the edit's promise, the reply is the ledger's and the invariant holds again.
-- Assumes nothing.
use Rattle.grammar.specs.declared.refusal.Refusal.{Refusal}
use Rattle.grammar.specs.declared.refusal.Refusal.TheVariants.{EditRange, EditRoom}
use Rattle.grammar.specs.Refusals.{number}
use Rattle.grammar.proofs.Refusals.{number_bounds, refused_with}
use Rattle.grammar.specs.Refusals.{number_in}
use Rattle.std.specs.Prelude.{Ok, Err}
use Prim.Native.Nat.{ℕ, ◌+◌, ◌-◌, ◌≤◌, ◌<◌}
use native.Mathlib.Omega.{arith}
use mathlib.Core.Path.{◌≡◌, refl, sym, ap, ◌∙◌, subst}
use mathlib.Core.Bool.{Bool, true, false, cond}
use mathlib.Core.List.{List, ◌++◌}
use mathlib.Core.Logic.{◌⊎◌, ⊎_elim}
use lib.ListN.{length, take, drop}
use lib.Dec.{leb}
use borrow.Author.Tests.{leb-true}
use Rattle.grammar.specs.Questions.{First}
use Rattle.grammar.specs.declared.Evaluation.{Evaluation}
use Rattle.grammar.specs.Image.{rules, body}
use Rattle.grammar.specs.Evaluates.{Fresh, bodies_only, a_node, ev_body}
use Rattle.grammar.proofs.Determinism.{one}
use Rattle.evaluation.specs.Calls.{Pair, In, calls_of}
use Rattle.evaluation.proofs.CallLocality.{shifted}
use Rattle.evaluation.proofs.Plain.{fresh_within}
use Rattle.records.specs.Words.{is_held, examined_of, word_of}
use Rattle.records.proofs.Codec.{examined_back}
use Rattle.packrat.specs.Over.{word_at}
use Rattle.packrat.proofs.OverTables.{word-possible}
use Rattle.editing.specs.Text.{EditFits, new_length, text_after}
use Rattle.editing.specs.Table.{table_size, words_after, table_after, held_in}
use Rattle.editing.proofs.Ledger.{ledger_after}
use Rattle.editing.proofs.Loans.{edited_long, edit_opened, after_long, after_tail}
use Rattle.promises.specs.Answers.{EditAnswer}
use Rattle.promises.specs.Questions.{of_edit}
use Rattle.promises.specs.Promises.{EditValues, EditPromise}
use Rattle.ledger.specs.Demand.{next_length}
use Rattle.ledger.specs.Ledger.{Evaluations, Ledger, Turn, edit, edits, value_in, edited_text, standing, pairs_of}
use Rattle.ledger.specs.Ledger.{passes9, passes10, edit_turn, turn}
use Rattle.grammar.proofs.Bools.{both}
use Rattle.promises.proofs.Asked.{edit_9, edit_10, edit_0, edit_one}
use Rattle.ledger.proofs.Inv.{Inv, held_word, cap_is, short_text, value_of}
use Rattle.ledger.proofs.Asks.{good, passes_9, fails_9, passes_10, fails_10}
use Rattle.promises.proofs.Tables.{lent_table}
use Rattle.ledger.proofs.Sums.{count_cut}
use Rattle.ledger.proofs.Called.{called_within, in_shifted, shifted_in}
use Rattle.ledger.proofs.Edited.{Stays, Carried, stands_cases, stands_stay, stands_carry, front_length, s_in_after}
use Rattle.ledger.proofs.Edited.{stay_back, stay_calls, was, carry_back, carry_there, value_stay, value_carry}

module _ {ev : Evaluations} {cap : ℕ} {rest : List ℕ} {l : Ledger} {B : List ℕ} {n : ℕ} {W : List ℕ} (v : Inv ev cap rest l B n W)
    (s e : ℕ) (r : List ℕ) (fits : EditFits cap (length l.text) s e (length r))
  where
    abbrev now : Ledger
    now = (edit_turn ev true true l s e r).left

    abbrev examined : (rule q : ℕ) → ℕ
    examined rule q = (value_in ev l rule q).examined

    abbrev StaysHere : (rule q : ℕ) → Type 0
    StaysHere rule q = Stays (l.held rule) (examined rule) s q

    abbrev ComesHere : (rule q : ℕ) → Type 0
    ComesHere rule q = Carried (l.held rule) (length l.text) s e (length r) q

    cases : (rule q : ℕ) → standing ev l s e r rule q ≡ true → StaysHere rule q ⊎ ComesHere rule q
    cases rule q = stands_cases (l.held rule) (examined rule) (length l.text) s e (length r) q

    stays : (rule q : ℕ) → StaysHere rule q → standing ev l s e r rule q ≡ true
    stays rule q = stands_stay (l.held rule) (examined rule) (length l.text) s e (length r) q

    comes : (rule q : ℕ) → ComesHere rule q → standing ev l s e r rule q ≡ true
    comes rule q = stands_carry (l.held rule) (examined rule) (length l.text) s e (length r) q

    long : length (edited_text l s e r) ≡ new_length (length l.text) s e (length r)
    long = edited_long cap s e l.text r fits

    -- A pair that stands has its old evaluation.
    stay-value : (rule q : ℕ) → StaysHere rule q → value_in ev now rule q ≡ value_in ev l rule q
    stay-value rule q c =
        let k = v.held_in rule q c.was_held in
        value_stay cap l.text r s e fits l.image ev l.accepted rule q k.0 k.1 c.unseen

    come-value : (rule q : ℕ) → ComesHere rule q → value_in ev now rule q ≡ value_in ev l rule (q - length r + (e - s))
    come-value rule q c =
        let k = v.held_in rule (q - length r + (e - s)) c.was_held in
        value_carry cap l.text r s e fits l.image ev l.accepted rule q k.0 c.behind c.in_text

    range-after : (rule q : ℕ) → standing ev l s e r rule q ≡ true → (rule < rules l.image) × (q ≤ length (edited_text l s e r))
    range-after rule q t =
        ⊎_elim
        (λ c. (
          (v.held_in rule q c.was_held).0,
          let a = s_in_after cap l.text r s e fits in omega (arith, c.before),
        ))
        (λ c. ((v.held_in rule (q - length r + (e - s)) c.was_held).0, rw long c.in_text))
        (cases rule q t)

    nesting-after : (rule q : ℕ) → standing ev l s e r rule q ≡ true → (value_in ev now rule q).nesting ≤ 4096
    nesting-after rule q t =
        ⊎_elim (λ c. rw (stay-value rule q c) (v.shallow rule q c.was_held))
        (λ c. rw (come-value rule q c) (v.shallow rule (q - length r + (e - s)) c.was_held))
        (cases rule q t)

    -- The pairs that its body calls stand too: where it stays,
    closed-stay :
        (rule q : ℕ) → StaysHere rule q
        → (z : Evaluation) (u : Fresh l.image (edited_text l s e r) (a_node (body l.image rule)) q z) (y : Pair)
        → In y (calls_of u)
        → standing ev l s e r y.rule y.position ≡ true
    closed-stay rule q c z u y i =
        let k = range-after rule q (stays rule q c) in
        let same : z ≡ value_in ev l rule q =
        one l.image (edited_text l s e r) bodies_only (ev_body refl u)
        (ev.value_is l.image l.accepted (edited_text l s e r) rule q k.0 k.1)
        ∙ stay-value rule q c in
        let reach = ap (λ (x : Evaluation). x.examined) same in
        let h : q + z.examined ≤ s = omega (arith, c.unseen) in
        let old = stay_back cap l.text r s e fits l.image u h in
        let j : In y (calls_of old) =
        subst (λ (ps : List Pair). In y ps) (sym (stay_calls cap l.text r s e fits l.image u h)) i in
        let held = v.closed rule q c.was_held z old y j in
        let in-it = called_within old j in
        let seen =
        ap (λ (x : Evaluation). x.examined)
        (one l.image l.text bodies_only (value_of v y.rule y.position held) in-it.evaluated) in
        stays y.rule y.position
        (record { before = omega (arith, in-it.within); was_held = held; unseen = omega (arith, in-it.within) })

    -- and where it comes with the text.
    closed-come :
        (rule q : ℕ) → ComesHere rule q
        → (z : Evaluation) (u : Fresh l.image (edited_text l s e r) (a_node (body l.image rule)) q z) (y : Pair)
        → In y (calls_of u)
        → standing ev l s e r y.rule y.position ≡ true
    closed-come rule q c z u y i =
        let back = carry_back cap l.text r s e fits l.image u c.behind in
        let old = carry_there cap l.text r s e fits l.image (q - (s + length r)) back.evaluated in
        let x =
        in_shifted (length (take s l.text ++ r)) (calls_of back.evaluated) (subst (λ (ps : List Pair). In y ps) back.calls_are i) in
        let j : In (shifted e x.pair) (calls_of old.evaluated) =
        subst (λ (ps : List Pair). In (shifted e x.pair) ps) (sym old.calls_are) (shifted_in e x.among) in
        let was_held : l.held rule (e + (q - (s + length r))) ≡ true =
        ap (l.held rule) (sym (was cap l.text r s e fits l.image q c.behind)) ∙ c.was_held in
        let held = v.closed rule (e + (q - (s + length r))) was_held z old.evaluated (shifted e x.pair) j in
        let k = v.held_in x.pair.rule (e + x.pair.position) held in
        let place : y.position ≡ s + length r + x.pair.position =
        ap (λ (p : Pair). p.position) x.is
        ∙ ap (λ (m : ℕ). m + x.pair.position) (front_length cap l.text r s e fits) in
        let came : y.position - length r + (e - s) ≡ e + x.pair.position = omega arith in
        comes y.rule y.position
        (record {
          behind = omega arith;
          in_text = omega (arith, k.1);
          was_held = (λ i. l.held (ap (λ (p : Pair). p.rule) x.is i) (came i)) ∙ held;
        })

    -- The words after the edit: what the table's law asks of the words of held pairs,
    stored :
        (rule q : ℕ) → rule < rules l.image → l.held rule q ≡ true
        → (is_held (word_of (value_in ev l rule q)) ≡ true) × (examined_of (word_of (value_in ev l rule q)) ≡ examined rule q)
    stored rule q m t =
        let h = (v.held_in rule q t).1 in (
          held_word l.image l.text rule q (value_in ev l rule q) (value_of v rule q t) h (short_text v) (v.shallow rule q t),
          examined_back (value_in ev l rule q)
              (word-possible (value_in ev l rule q) q (length l.text) (short_text v) (fresh_within (value_of v rule q t) h)
              (v.shallow rule q t)).0,
        )

    stay-word :
        (rule q : ℕ) → rule < rules l.image → l.held rule q ≡ true → q + examined rule q ≤ s
        → word_of (value_in ev now rule q) ≡ word_of (value_in ev l rule q)
    stay-word rule q m t h = ap word_of (stay-value rule q (record { before = omega arith; was_held = t; unseen = h }))

    come-word :
        (rule q : ℕ) → rule < rules l.image → s + length r ≤ q → q ≤ new_length (length l.text) s e (length r)
        → l.held rule (q - length r + (e - s)) ≡ true
        → word_of (value_in ev now rule q) ≡ word_of (value_in ev l rule (q - length r + (e - s)))
    come-word rule q m a b t = ap word_of (come-value rule q (record { behind = a; in_text = b; was_held = t }))

    -- no pair above the text,
    above : (rule q : ℕ) → length (edited_text l s e r) < q → standing ev l s e r rule q ≡ false
    above rule q h = go (standing ev l s e r rule q) refl
      where
        go : (b : Bool) → standing ev l s e r rule q ≡ b → b ≡ false
        go true t = absurd (let k = (range-after rule q t).1 in omega arith)
        go false t = refl

    -- the words, and their number.
    word_after :
        (rule q : ℕ) → rule < rules l.image → q ≤ cap
        → word_at l.image (table_after (rules l.image) cap (length l.text) s e (length r) W) rule q
        ≡ cond (standing ev l s e r rule q) (word_of (value_in ev now rule q)) 0
    word_after =
        ledger_after (rules l.image) cap (length l.text) s e (length r) W l.accepted.lawful.counts.some_rules fits
        l.held examined (λ rule q. word_of (value_in ev l rule q)) (λ rule q. word_of (value_in ev now rule q)) v.words_are stored
        stay-word come-word

    count-after :
        held_in (words_after (rules l.image) cap (length l.text) s e (length r) W)
        ≡ pairs_of l.image (edited_text l s e r) (standing ev l s e r)
    count-after =
        Rattle.editing.proofs.Ledger.standing (rules l.image) cap (length l.text) s e (length r) W
        l.accepted.lawful.counts.some_rules fits
        l.held examined (λ rule q. word_of (value_in ev l rule q)) (λ rule q. word_of (value_in ev now rule q)) v.words_are stored
        stay-word come-word
        ∙ count_cut (rules l.image) (length (edited_text l s e r) + 1) (cap + 1) (standing ev l s e r)
        (let a = long in omega arith)
        (λ rule q h. above rule q (omega arith))

    inv-edit :
        (W' : List ℕ) → table_size (rules l.image) cap ≤ length W'
        → ((rule q : ℕ) → rule < rules l.image → q ≤ cap
        → word_at l.image W' rule q ≡ cond (standing ev l s e r rule q) (word_of (value_in ev now rule q)) 0)
        → drop (table_size (rules l.image) cap) W' ≡ rest
        → Inv ev cap rest now (text_after B n s e r) (new_length n s e (length r)) W'
    inv-edit W' whole words after =
        rw (v.bytes_are, v.length_is)
        (record {
          small = v.small;
          text_fits = rw long fits.room;
          length_is = sym long;
          bytes_are = edit_opened cap s e l.text r fits;
          whole = whole;
          words_are = words;
          held_in = range-after;
          shallow = nesting-after;
          closed = λ rule q t z u y i. ⊎_elim (λ c. closed-stay rule q c z u y i) (λ c. closed-come rule q c z u y i) (cases rule q t);
          after_table = after;
        })

    -- The edit that the promise says.
    edit_done :
        {B' W' : List ℕ} (a : EditAnswer) → number_in a ≡ 0 → EditValues l.image B n W s e r a B' W'
        → (edits a ≡ (edit_turn ev true true l s e r).reply) × Inv ev cap rest now B' (next_length n a) W'
    edit_done (Err q) f p = absurd (let b = number_bounds q in omega arith)
    edit_done {W' = W'} (Ok x) f p =
        let lent = lent_table cap W l.accepted v.small v.whole in
        let count : x.standing ≡ pairs_of l.image (edited_text l s e r) (standing ev l s e r) =
        p.standing_are
        ∙ ap (λ (c : ℕ). held_in (words_after (rules l.image) c n s e (length r) W)) (cap_is v)
        ∙ ap (λ (m : ℕ). held_in (words_after (rules l.image) cap m s e (length r) W)) v.length_is
        ∙ count-after in
        let new : x.length ≡ length (edited_text l s e r) =
        p.length_is ∙ ap (λ (m : ℕ). new_length m s e (length r)) v.length_is ∙ sym long in
        let words : W' ≡ table_after (rules l.image) cap (length l.text) s e (length r) W =
        p.words_are
        ∙ ap (λ (c : ℕ). table_after (rules l.image) c n s e (length r) W) (cap_is v)
        ∙ ap (λ (m : ℕ). table_after (rules l.image) cap m s e (length r) W) v.length_is in (
          (λ i. edits (Ok (record { length = new i; standing = count i }))),
          rw (p.bytes_are, words, p.length_is)
              (inv-edit (table_after (rules l.image) cap (length l.text) s e (length r) W)
              (rw (after_long lent (length l.text) s e (length r)) v.whole) word_after
              (after_tail lent (length l.text) s e (length r) ∙ v.after_table)),
        )

-- An answer with a number leaves the invariant.
edit_refused :
    {ev : Evaluations} {cap : ℕ} {rest : List ℕ} {l : Ledger} {B : List ℕ} {n : ℕ} {W : List ℕ} → Inv ev cap rest l B n W
    → (s e : ℕ) (r : List ℕ) {B' W' : List ℕ} (a : EditAnswer) (q : Refusal) → number_in a ≡ number q
    → EditValues l.image B n W s e r a B' W'
    → (edits a ≡ edits (Err q)) × Inv ev cap rest l B' (next_length n a) W'
edit_refused v s e r (Ok x) q f p = absurd (let b = number_bounds q in omega arith)
edit_refused v s e r (Err j) q f p =
    (ap edits (refused_with (Err j) q f), rw (p.same_bytes, p.same_words) v)

module _ {ev : Evaluations} {cap : ℕ} {rest : List ℕ} {l : Ledger} {B : List ℕ} {n : ℕ} {W : List ℕ} (v : Inv ev cap rest l B n W)
    (s e : ℕ) (r : List ℕ) {a : EditAnswer} {B' W' : List ℕ} (p : EditPromise l.image B n W s e r a B' W')
  where
    number_is : (k : ℕ) → First (of_edit l.image (length B) n (length W) s e (length r)) k → number_in a ≡ k
    number_is k f = edit_one l.image (length B) n (length W) s e (length r) (number_in a) k p.first f

    abbrev Stepped : Turn → Type 0
    Stepped t = (edits a ≡ t.reply) × Inv ev cap rest t.left B' (next_length n a) W'

    step : (b c : Bool) → passes9 l s e ≡ b → passes10 cap l s e r ≡ c → Stepped (edit_turn ev b c l s e r)
    step false c t u =
        edit_refused v s e r a EditRange
        (number_is 9 (edit_9 l.image (length B) n (length W) (good v) s e (length r) (fails_9 v s e t)))
        p.values
    step true false t u =
        edit_refused v s e r a EditRoom
        (number_is 10 (edit_10 l.image (length B) n (length W) (good v) s e (length r) (passes_9 v s e t) (fails_10 v s e r u)))
        p.values
    step true true t u =
        let b = both (leb s e) (leb e (length l.text)) t in
        edit_done v s e r
        (record {
          lent = v.text_fits;
          ordered = leb-true s e b.0;
          within = leb-true e (length l.text) b.1;
          room = leb-true (new_length (length l.text) s e (length r)) cap u;
        })
        a
        (number_is 0 (edit_0 l.image (length B) n (length W) (good v) s e (length r) (passes_9 v s e t) (passes_10 v s e r u)))
        p.values

    pub edit_step :
        (edits a ≡ (turn ev cap l (edit s e r)).reply) × Inv ev cap rest (turn ev cap l (edit s e r)).left B' (next_length n a) W'
    unfolding turn
    edit_step = step (passes9 l s e) (passes10 cap l s e r) refl refl
