-- Over a true and closed table the walk of what matched gives, in any window, the words of the rows that the window touches, in order,
-- or 15 exactly where they do not fit. Assumes nothing.
--     lists    for every subject of the image at a position of the text that matches there and whose calls are held
use Prim.Native.Nat.{ℕ, zero, suc, ◌+◌, ◌≤◌, ◌<◌}
use native.Mathlib.Omega.{arith}
use mathlib.Core.Path.{◌≡◌, refl, sym, ap, ◌∙◌}
use mathlib.Core.Bool.{Bool, true, false, not, true≢false}
use mathlib.Core.List.{List, [], ◌∷◌, ◌++◌}
use lib.ListN.{length, get_or}
use lib.Dec.{leb, eqb}
use borrow.Author.Tests.{ne_eqb, leb-true, leb-false}
use Rattle.grammar.specs.declared.Evaluation.{Evaluation}
use Rattle.grammar.specs.declared.node.Node.TheVariants.{Call}
use Rattle.grammar.specs.Image.{rules, root, node, body}
use Rattle.grammar.specs.Questions.{Question4}
use Rattle.grammar.specs.Evaluates.{Fresh, Subject, bodies_only, a_node, a_pair, rounds_of, length_if}
use Rattle.grammar.specs.Evaluates.{ev_empty, ev_terminal, ev_then_first_fails, ev_then, ev_else_first, ev_else_second}
use Rattle.grammar.specs.Evaluates.{ev_star, ev_last_round, ev_round, ev_not, ev_call, ev_body, ev_record}
use Rattle.grammar.proofs.Determinism.{still, no_record}
use Rattle.grammar.proofs.References.{refers, root_in_range}
use Rattle.evaluation.specs.Calls.{calls_of, here}
use Rattle.evaluation.proofs.Pairs.{in_left, in_right}
use Rattle.evaluation.proofs.Plain.{fresh_within}
use Rattle.evaluation.proofs.Range.{InImage}
use Rattle.packrat.specs.True.{TrueTable}
use Rattle.packrat.specs.Closed.{ClosedTable}
use Rattle.loaded.specs.declared.form.LoadedGrammar.{LoadedGrammar}
use Rattle.loaded.specs.Loaded.{Loaded, word_b}
use Rattle.rows.specs.Rows.{Row, row_word, if_matched, rows_of}
use Rattle.rows.specs.Window.{touches, word_if, shown}
use Rattle.rows.specs.Fits.{Fits, too_many}
use Rattle.rows.specs.Walk.{walked, Trail, trail, after_look, part_v, joined, after_first}
use Rattle.rows.specs.Walk.{after_choice, after_round, rounds_v, met, entered, pair_v, kind_v, node_v}
use Rattle.rows.proofs.Windows.{none_shown, shown_both}
use Rattle.rows.proofs.RowsInside.{inside}
use Rattle.rows.proofs.Pairs.{Held, pair_says, numbered}
use Rattle.rows.proofs.Looks.{step, looks, by_number, rounds_match}
use Rattle.rows.proofs.Fits.{same_walk, same_words, same_length, no_row, in_turn, at_end, row_first}

module _ (img text table : List ℕ) (words : Question4 img) (narrow : rules img ≤ 64) (short : length text ≤ 65535)
    (true_words : TrueTable img text table)
    (closed : ClosedTable img text table) {g : LoadedGrammar} (loaded : Loaded img g) (room : ℕ)
  where
    abbrev Lists : Subject → ℕ → Evaluation → (ℕ → List Row) → Type 0
    Lists (a_node m) p z rows =
        (ρ : ℕ) → ((r : ℕ) → m ≡ Call r → ρ ≡ root img r) → (left : ℕ) → z.nesting ≤ suc left → (lo hi k c : ℕ) → c ≤ room
        → Fits room c true z.length (shown lo hi (rows k))
        (kind_v text (node_v room g text table left) (pair_v g.rules ρ room text table (node_v room g text table left)) m p lo hi k c)
    Lists (a_pair r) p z rows =
        (left : ℕ) → z.nesting ≤ left → (lo hi k c : ℕ) → c ≤ room
        → Fits room c true z.length (shown lo hi (rows k))
        (pair_v g.rules (root img r) room text table (node_v room g text table left) r p lo hi k c)
    Lists (rounds_of a) p z rows =
        (fuel at before : ℕ) → at + before ≡ p → length text < fuel + p → (left : ℕ) → z.nesting ≤ left → (lo hi k c : ℕ) → c ≤ room
        → Fits room c true (before + z.length) (shown lo hi (rows k))
        (rounds_v fuel (length text) (node_v room g text table left) a at lo hi k before c)

    -- A node by its number.
    node_lists :
        (i p : ℕ) {x : Evaluation} (u : Fresh img text (a_node (node img i)) p x) → p ≤ length text
        → Lists (a_node (node img i)) p x (rows_of u)
        → (left : ℕ) → x.nesting ≤ left → (lo hi k c : ℕ) → c ≤ room
        → Fits room c true x.length (shown lo hi (rows_of u k)) (node_v room g text table left i p lo hi k c)
    node_lists i p u h f zero most lo hi k c few = absurd (omega (arith, (fresh_within u h).nested))
    node_lists i p u h f (suc left) most lo hi k c few =
        same_walk (numbered img text table loaded room left i p lo hi k c)
        (f (word_b (get_or g.words i 0)) (loaded.words_are i).root_is left most lo hi k c few)

    -- The same in a position where the node could fail: it is looked at first.
    part-lists :
        (i p : ℕ) {x : Evaluation} (u : Fresh img text (a_node (node img i)) p x) → InImage img (a_node (node img i)) → p ≤ length text
        → Held img text table (a_node (node img i)) p (calls_of u) → x.matched ≡ true
        → Lists (a_node (node img i)) p x (rows_of u)
        → (left : ℕ) → x.nesting ≤ left → (lo hi k c : ℕ) → c ≤ room
        → Fits room c true x.length (shown lo hi (rows_of u k)) (part_v (length text) (node_v room g text table left) i p lo hi k c)
    unfolding part_v after_look
    part-lists i p {x} u r h held m f left most lo hi k c few =
        same_walk
        (step (λ m l c. after_look m (touches lo hi p l) l (node_v room g text table left i p lo hi k) c)
        (by_number img text table words narrow short true_words loaded room i p u h
        (looks img text table words narrow short true_words loaded room u r h held) left most k c)
        ∙ ap (λ (b : Bool). after_look b (touches lo hi p x.length) x.length (node_v room g text table left i p lo hi k) c) m)
        (go (touches lo hi p x.length) refl)
      where
        go :
            (b : Bool) → touches lo hi p x.length ≡ b
            → Fits room c true x.length (shown lo hi (rows_of u k))
            (after_look true (touches lo hi p x.length) x.length (node_v room g text table left i p lo hi k) c)
        go true e =
            same_walk (ap (λ (b : Bool). after_look true b x.length (node_v room g text table left i p lo hi k) c) e)
            (node_lists i p u h f left most lo hi k c few)
        go false e =
            same_words (none_shown lo hi p x.length (inside img text words u r h k (k + x.nesting) (omega arith)) e)
            (no_row few (ap (λ (b : Bool). after_look true b x.length (node_v room g text table left i p lo hi k) c) e))

    -- One that fails gives no row.
    part-fails :
        (i p : ℕ) {x : Evaluation} (u : Fresh img text (a_node (node img i)) p x) → InImage img (a_node (node img i)) → p ≤ length text
        → Held img text table (a_node (node img i)) p (calls_of u) → x.matched ≡ false
        → (left : ℕ) → x.nesting ≤ left → (lo hi k c : ℕ)
        → part_v (length text) (node_v room g text table left) i p lo hi k c ≡ trail (walked false 0 c) []
    unfolding part_v after_look
    part-fails i p {x} u r h held m left most lo hi k c =
        step (λ m l c. after_look m (touches lo hi p l) l (node_v room g text table left i p lo hi k) c)
        (by_number img text table words narrow short true_words loaded room i p u h
        (looks img text table words narrow short true_words loaded room u r h held) left most k c)
        ∙ ap (λ (b : Bool). after_look b (touches lo hi p x.length) x.length (node_v room g text table left i p lo hi k) c) m

    -- A pair that matched: its row, then those of its body.
    pair-lists :
        (r p : ℕ) {z : Evaluation} (v : Fresh img text (a_pair r) p z) (u : Fresh img text (a_node (body img r)) p z)
        → r < rules img → p ≤ length text → Held img text table (a_pair r) p (calls_of v)
        → z.matched ≡ true
        → ((k : ℕ) → rows_of v k ≡ record { rule = r; depth = k; start = p; length = z.length } ∷ rows_of u (k + 1))
        → ((left : ℕ) → z.nesting ≤ left → (lo hi k c : ℕ) → c ≤ room
        → Fits room c true z.length (shown lo hi (rows_of u k)) (node_v room g text table left (root img r) p lo hi k c))
        → Lists (a_pair r) p z (rows_of v)
    unfolding met entered shown
    pair-lists r p {z} v u l h held m rows f left most lo hi k c few =
        same_walk
        (pair_says img text table narrow short true_words loaded v l h held (root img r) room (node_v room g text table left) lo hi k c
        ∙ ap (λ (b : Bool). met true b c (Entered (touches lo hi p z.length) (leb room c))) m)
        (go (touches lo hi p z.length) refl (leb room c) refl)
      where
        row : Row
        row = record { rule = r; depth = k; start = p; length = z.length }

        Entered : (touched full : Bool) → Trail
        Entered touched full =
            entered touched full z.length (row_word row) (node_v room g text table left (root img r) p lo hi (k + 1)) c

        words_are :
            (b : Bool) → touches lo hi p z.length ≡ b
            → shown lo hi (rows_of v k) ≡ word_if b (row_word row) (shown lo hi (rows_of u (k + 1)))
        words_are b e = ap (shown lo hi) (rows k) ∙ ap (λ (b : Bool). word_if b (row_word row) (shown lo hi (rows_of u (k + 1)))) e

        go :
            (b : Bool) → touches lo hi p z.length ≡ b → (full : Bool) → leb room c ≡ full
            → Fits room c true z.length (shown lo hi (rows_of v k)) (Entered (touches lo hi p z.length) (leb room c))
        go false e full j =
            same_words (none_shown lo hi p z.length (inside img text words v l h k (k + z.nesting) (omega arith)) e)
            (no_row few (ap (λ (b : Bool). Entered b (leb room c)) e))
        go true e true j =
            same_words (words_are true e)
            (let a = leb-true room c j in
            too_many (omega arith) [] (ap (λ (b : Bool). Entered b (leb room c)) e ∙ ap (Entered true) j))
        go true e false j =
            same_words (words_are true e)
            (let a = leb-false room c j in
            same_walk (ap (λ (b : Bool). Entered b (leb room c)) e ∙ ap (Entered true) j)
            (row_first (omega arith) (f left most lo hi (k + 1) (c + 1) (omega arith))))

    -- The round that fails gives no row; a round that matches gives its rows before those of the rounds after it.
    last-lists :
        (a p : ℕ) {x : Evaluation} (u : Fresh img text (a_node (node img a)) p x) → InImage img (a_node (node img a)) → p ≤ length text
        → Held img text table (a_node (node img a)) p (calls_of u) → x.matched ≡ false
        → (fuel at before : ℕ) → at + before ≡ p → length text < fuel + p → (left : ℕ) → x.nesting ≤ left → (lo hi k c : ℕ)
        → rounds_v fuel (length text) (node_v room g text table left) a at lo hi k before c ≡ trail (walked true before c) []
    unfolding rounds_v after_round
    last-lists a p u r h held m zero at before j enough left most lo hi k c = absurd (omega arith)
    last-lists a p u r h held m (suc fuel) at before j enough left most lo hi k c =
        let ev = node_v room g text table left in
        let more : ℕ → ℕ → Trail = λ l. rounds_v fuel (length text) ev a at lo hi k (before + l) in
        step (λ m l c. after_round m (eqb l 0) before (more l) c)
        (ap (λ (q : ℕ). part_v (length text) ev a q lo hi k c) j ∙ part-fails a p u r h held m left most lo hi k c)

    more-lists :
        (a p : ℕ) {x y : Evaluation} (u : Fresh img text (a_node (node img a)) p x) (v : Fresh img text (rounds_of a) (p + x.length) y)
        → InImage img (a_node (node img a)) → p ≤ length text
        → Held img text table (a_node (node img a)) p (calls_of u) → x.matched ≡ true → (x.length ≡ 0 → ⊥)
        → Lists (a_node (node img a)) p x (rows_of u)
        → Lists (rounds_of a) (p + x.length) y (rows_of v)
        → (fuel at before : ℕ) → at + before ≡ p → length text < fuel + p → (left : ℕ) → x.nesting ≤ left → y.nesting ≤ left
        → (lo hi k c : ℕ) → c ≤ room
        → Fits room c true (before + x.length + y.length) (shown lo hi (rows_of u k ++ rows_of v k))
        (rounds_v fuel (length text) (node_v room g text table left) a at lo hi k before c)
    unfolding rounds_v after_round
    more-lists a p u v r h held m ne f rest zero at before j enough left most most' lo hi k c few = absurd (omega arith)
    more-lists a p {x} u v r h held m ne f rest (suc fuel) at before j enough left most most' lo hi k c few =
        let ev = node_v room g text table left in
        let more : ℕ → ℕ → Trail = λ l. rounds_v fuel (length text) ev a at lo hi k (before + l) in
        same_words (shown_both lo hi (rows_of u k) (rows_of v k))
        (in_turn
        (same_walk (ap (λ (q : ℕ). part_v (length text) ev a q lo hi k c) j) (part-lists a p u r h held m f left most lo hi k c few))
        (λ m l c. after_round m (eqb l 0) before (more l) c)
        (λ few'.
        same_walk (ap (λ (q : Bool). after_round true q before (more x.length) (c + length (shown lo hi (rows_of u k)))) (ne_eqb x.length 0 ne))
        (rest fuel at (before + x.length) (omega arith) (omega (arith, ne)) left most' lo hi k (c + length (shown lo hi (rows_of u k))) few')))

    pub lists :
        {s : Subject} {p : ℕ} {z : Evaluation} (u : Fresh img text s p z) → InImage img s → p ≤ length text
        → Held img text table s p (calls_of u) → z.matched ≡ true → Lists s p z (rows_of u)
    unfolding kind_v after_first after_choice joined calls_of rows_of body shown
    lists (ev_empty e) r h held t = λ ρ root_is left most lo hi k c few.
        no_row few (ap (λ (l : ℕ). trail (walked true l c) []) (sym (ap (λ (w : Evaluation). w.length) e)))
    lists {z = z} (ev_terminal e) r h held t = λ ρ root_is left most lo hi k c few.
        no_row few
        (ap (λ (w : Evaluation). trail (walked w.matched w.length c) []) (sym e)
        ∙ ap (λ (b : Bool). trail (walked b z.length c) []) t)
    lists (ev_then_first_fails u m e) r h held t = absurd (true≢false (sym t ∙ ap (λ (w : Evaluation). w.matched) e))
    lists {p = p} (ev_then {a} {b} {x = x} {y = y} u m v e) r h held t = λ ρ root_is left most lo hi k c few.
        let n = ap (λ (w : Evaluation). w.nesting) e in
        let i = fresh_within u h in
        let second : y.matched ≡ true = sym (ap (λ (w : Evaluation). w.matched) e) ∙ t in
        let ev = node_v room g text table left in
        same_length (ap (λ (w : Evaluation). w.length) e ∙ ap (λ (b : Bool). length_if b (x.length + y.length)) second)
        (same_words
        (ap (λ (b : Bool). shown lo hi (if_matched b (rows_of u k ++ rows_of v k))) second ∙ shown_both lo hi (rows_of u k) (rows_of v k))
        (in_turn
        (node_lists a p u h (lists u (refers img words a r.0) h (λ y j. held y (in_left (calls_of v) j)) m) left (omega arith) lo hi k c few)
        (λ m l c. after_first m l (ev b (p + l) lo hi k) c)
        (λ few'.
        at_end
        (node_lists b (p + x.length) v i.in_text
        (lists v (refers img words b r.1) i.in_text (λ y j. held y (in_right (calls_of u) j)) second) left (omega arith) lo hi k
        (c + length (shown lo hi (rows_of u k))) few')
        (λ m l c. joined m x.length l c)
        (λ d. refl))))
    lists {p = p} (ev_else_first {a} {b} u m e) r h held t = λ ρ root_is left most lo hi k c few.
        let n = ap (λ (w : Evaluation). w.nesting) e in
        same_length (ap (λ (w : Evaluation). w.length) e)
        (at_end
        (part-lists a p u (refers img words a r.0) h held m (lists u (refers img words a r.0) h held m) left (omega arith) lo hi k c few)
        (λ m l c. after_choice m l (node_v room g text table left b p lo hi k) c)
        (λ d. refl))
    lists {p = p} (ev_else_second {a} {b} u m v e) r h held t = λ ρ root_is left most lo hi k c few.
        let n = ap (λ (w : Evaluation). w.nesting) e in
        same_length (ap (λ (w : Evaluation). w.length) e)
        (same_walk
        (step (λ m l c. after_choice m l (node_v room g text table left b p lo hi k) c)
        (part-fails a p u (refers img words a r.0) h (λ y j. held y (in_left (calls_of v) j)) m left (omega arith) lo hi k c))
        (node_lists b p v h
        (lists v (refers img words b r.1) h (λ y j. held y (in_right (calls_of u) j)) (sym (ap (λ (w : Evaluation). w.matched) e) ∙ t))
        left (omega arith) lo hi k c few))
    lists {p = p} (ev_star u e) r h held t = λ ρ root_is left most lo hi k c few.
        let n = ap (λ (w : Evaluation). w.nesting) e in
        let l = ap (λ (w : Evaluation). w.length) e in
        same_length (omega arith)
        (lists u r h held (rounds_match u) (suc (length text)) p 0 (omega arith) (omega arith) left (omega arith) lo hi k c few)
    lists {p = p} (ev_last_round {a} u m e) r h held t = λ fuel at before j enough left most lo hi k c few.
        let n = ap (λ (w : Evaluation). w.nesting) e in
        let l = ap (λ (w : Evaluation). w.length) e in
        same_length {l = before} (omega arith)
        (no_row few (last-lists a p u (refers img words a r) h held m fuel at before j enough left (omega arith) lo hi k c))
    lists {p = p} (ev_round {a} {x = x} {y = y} u m v e) r h held t = λ fuel at before j enough left most lo hi k c few.
        let n = ap (λ (w : Evaluation). w.nesting) e in
        let l = ap (λ (w : Evaluation). w.length) e in
        let first = refers img words a r in
        same_length {l = before + x.length + y.length} (omega arith)
        (more-lists a p u v first h (λ y j. held y (in_left (calls_of v) j)) m (λ z. still img text bodies_only u m z (ev_round u m v e))
        (lists u first h (λ y j. held y (in_left (calls_of v) j)) m)
        (lists v r (fresh_within u h).in_text (λ y j. held y (in_right (calls_of u) j)) (rounds_match v))
        fuel at before j enough left (omega arith) (omega arith) lo hi k c few)
    lists {p = p} (ev_not {a} {x = x} u e) r h held t = λ ρ root_is left most lo hi k c few.
        let n = ap (λ (w : Evaluation). w.nesting) e in
        same_length (ap (λ (w : Evaluation). w.length) e)
        (no_row few
        (step (λ m l c. trail (walked (not m) 0 c) [])
        (by_number img text table words narrow short true_words loaded room a p u h
        (looks img text table words narrow short true_words loaded room u (refers img words a r) h held) left (omega arith) k c)
        ∙ ap (λ (b : Bool). trail (walked b 0 c) []) (sym (ap (λ (w : Evaluation). w.matched) e) ∙ t)))
    lists {p = p} (ev_call {r} {x = x} u e) l h held t = λ ρ root_is left most lo hi k c few.
        let n = ap (λ (w : Evaluation). w.nesting) e in
        same_length (ap (λ (w : Evaluation). w.length) e)
        (same_walk (ap (λ (i : ℕ). pair_v g.rules i room text table (node_v room g text table left) r p lo hi k c) (root_is r refl))
        (lists u l h (held (record { rule = r; position = p }) here) (sym (ap (λ (w : Evaluation). w.matched) e) ∙ t) left (omega arith)
        lo hi k c few))
    lists {p = p} {z = z} (ev_body {r} q u) l h held t =
        pair-lists r p (ev_body q u) u l h held t
        (λ k. ap (λ (b : Bool). if_matched b (record { rule = r; depth = k; start = p; length = z.length } ∷ rows_of u (k + 1))) t)
        (node_lists (root img r) p u h
        (lists u (refers img words (root img r) (root_in_range img words r l)) h (closed.called_held r p l h held z u) t))
    lists (ev_record q) r h held t = absurd (no_record q)
