-- The walk of the start pair over the records that a reading left gives the rows of the text, in order, and their number, or 15 exactly
-- where they do not fit. Assumes nothing.
--     start_lists      over a true and closed table that holds the start pair
--     reading_lists    over the table of a reading
use Prim.Native.Nat.{ℕ, ◌+◌, ◌≤◌}
use native.Mathlib.Omega.{arith}
use mathlib.Core.Path.{◌≡◌, refl, sym, ap, ◌∙◌, subst}
use mathlib.Core.Bool.{Bool, true, false}
use mathlib.Core.List.{List, [], ◌∷◌}
use lib.ListN.{length}
use lib.Dec.{leb}
use Rattle.grammar.proofs.Bools.{or_right}
use Rattle.grammar.specs.declared.Evaluation.{Evaluation}
use Rattle.grammar.specs.Image.{start, root}
use Rattle.grammar.specs.Questions.{Accepted}
use Rattle.grammar.specs.Evaluates.{Fresh, a_pair, ev_body, ev_record}
use Rattle.grammar.proofs.Determinism.{no_record}
use Rattle.evaluation.specs.Calls.{is_in, bodies_of}
use Rattle.evaluation.proofs.Pairs.{in_is}
use Rattle.evaluation.proofs.Reach.{own_body}
use Rattle.evaluation.proofs.Plain.{fresh_within}
use Rattle.records.specs.Words.{is_held}
use Rattle.packrat.specs.Over.{word_at}
use Rattle.packrat.specs.True.{TrueTable}
use Rattle.packrat.specs.Closed.{ClosedTable, Reads}
use Rattle.loaded.specs.declared.form.LoadedGrammar.{LoadedGrammar}
use Rattle.loaded.specs.Loaded.{Loaded}
use Rattle.packrat.specs.Model.{Out}
use Rattle.rows.specs.Rows.{if_matched, rows_of, row_word, row_words}
use Rattle.rows.specs.Window.{touches}
use Rattle.rows.specs.Walk.{Trail, met, entered, node_v, rule_v, start_v}
use Rattle.rows.specs.Fits.{Fits}
use Rattle.rows.proofs.RowsInside.{start_rows}
use Rattle.rows.proofs.Windows.{all_shown}
use Rattle.rows.proofs.Pairs.{pair_says}
use Rattle.rows.proofs.Fits.{same_words, same_length, same_match, no_row}
use Rattle.rows.proofs.Lists.{lists}

-- "No match gives 0 rows."
pub no_match : {img text : List ℕ} {r p : ℕ} {z : Evaluation} (u : Fresh img text (a_pair r) p z) (k : ℕ) → z.matched ≡ false → rows_of u k ≡ []
unfolding rows_of
no_match {p = p} {z = z} (ev_body {r} q u) k m =
    ap (λ (b : Bool). if_matched b (record { rule = r; depth = k; start = p; length = z.length } ∷ rows_of u (k + 1))) m
no_match (ev_record q) k m = absurd (no_record q)

module _ (img text table : List ℕ) (accepted : Accepted img) (short : length text ≤ 65535) (true_words : TrueTable img text table)
    (closed : ClosedTable img text table) {g : LoadedGrammar} (loaded : Loaded img g) (room : ℕ)
    {z : Evaluation} (u : Fresh img text (a_pair (start img)) 0 z)
    (held : is_held (word_at img table (start img) 0) ≡ true) (deep : z.nesting ≤ 4096)
  where
    -- The start pair that the grammar was loaded with is the image's.
    abbrev its_walk : (rule root : ℕ) → Trail
    its_walk rule root = rule_v room g text table 4096 root rule 0 0 (length text) 0 0

    pub start_lists : Fits room 0 z.matched z.length (row_words (rows_of u 0)) (start_v room g text table 0 (length text))
    unfolding start_v met row_words
    start_lists =
        subst (Fits room 0 z.matched z.length (row_words (rows_of u 0)))
        (λ i. its_walk (sym loaded.start_is i) (sym loaded.root_is i)) (go z.matched refl)
      where
        inner : Trail
        inner =
            entered (touches 0 (length text) 0 z.length) (leb room 0) z.length
            (row_word (record { rule = start img; depth = 0; start = 0; length = z.length }))
            (node_v room g text table 4096 (root img (start img)) 0 0 (length text) (0 + 1)) 0

        go : (b : Bool) → z.matched ≡ b → Fits room 0 z.matched z.length (row_words (rows_of u 0)) (its_walk (start img) (root img (start img)))
        go true m =
            same_words (sym (all_shown (length text) (start_rows img text accepted u)))
            (same_match m
            (lists img text table accepted.lawful.words accepted.lawful.counts.few_rules short true_words closed loaded room u accepted.lawful.counts.start_rule
            (omega arith) held m 4096 deep 0 (length text) 0 0 (omega arith)))
        go false m =
            same_words (ap row_words (no_match u 0 m))
            (same_length ((fresh_within u (omega arith)).failure m)
            (same_match m
            (no_row (omega arith)
            (pair_says img text table accepted.lawful.counts.few_rules short true_words loaded u accepted.lawful.counts.start_rule (omega arith) held
            (root img (start img)) room (node_v room g text table 4096) 0 (length text) 0 0
            ∙ ap (λ (b : Bool). met true b 0 inner) m))))

-- Over the table that a reading of the text left.
pub reading_lists :
    (img text before : List ℕ) (accepted : Accepted img) (short : length text ≤ 65535) {g : LoadedGrammar} (loaded : Loaded img g) (room : ℕ)
    {z : Evaluation} (u : Fresh img text (a_pair (start img)) 0 z) → z.nesting ≤ 4096
    → {count : ℕ} {o : Out} (reads : Reads img text before count z (bodies_of u) o)
    → Fits room 0 z.matched z.length (row_words (rows_of u 0)) (start_v room g text reads.after 0 (length text))
reading_lists img text before accepted short loaded room u deep reads =
    start_lists img text reads.after accepted short reads.gains.true_words reads.gains.closed loaded room u held deep
  where
    held : is_held (word_at img reads.after (start img) 0) ≡ true
    held =
        reads.gains.holds (start img) 0 accepted.lawful.counts.start_rule (omega arith)
        ∙ or_right (is_held (word_at img before (start img) 0)) (is_in (start img) 0 (bodies_of u)) (in_is (own_body u))
