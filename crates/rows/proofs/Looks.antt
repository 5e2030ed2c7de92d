-- Over a true and closed table the walk in the window that touches nothing tells what Ford's rules give: whether a node matches, and
-- how long; it gives no row. Assumes nothing.
--     looks    for every subject of the image at a position of the text whose calls are held
use Prim.Native.Nat.{ℕ, zero, suc, ◌+◌, ◌≤◌, ◌<◌}
use native.Mathlib.Omega.{arith}
use mathlib.Core.Path.{◌≡◌, refl, sym, ap, ◌∙◌}
use mathlib.Core.Bool.{Bool, true, false, not}
use mathlib.Core.List.{List, []}
use lib.ListN.{length, get_or}
use lib.Dec.{leb, eqb}
use borrow.Author.Tests.{ne_eqb}
use Rattle.grammar.specs.declared.Evaluation.{Evaluation}
use Rattle.grammar.specs.Image.{rules, node}
use Rattle.grammar.specs.Questions.{Question4}
use Rattle.grammar.specs.Evaluates.{Fresh, Subject, bodies_only, a_node, a_pair, rounds_of, length_if}
use Rattle.grammar.specs.Evaluates.{ev_empty, ev_terminal, ev_then_first_fails, ev_then, ev_else_first, ev_else_second}
use Rattle.grammar.specs.Evaluates.{ev_star, ev_last_round, ev_round, ev_not, ev_call, ev_body, ev_record}
use Rattle.grammar.proofs.Determinism.{still, no_record}
use Rattle.grammar.proofs.References.{refers}
use Rattle.evaluation.specs.Calls.{calls_of, here}
use Rattle.evaluation.proofs.Pairs.{in_left, in_right}
use Rattle.evaluation.proofs.Plain.{fresh_within}
use Rattle.evaluation.proofs.Range.{InImage}
use Rattle.packrat.specs.True.{TrueTable}
use Rattle.loaded.specs.declared.form.LoadedGrammar.{LoadedGrammar}
use Rattle.loaded.specs.Loaded.{Loaded, word_b}
use Rattle.rows.specs.Window.{touches}
use Rattle.rows.specs.Walk.{walked, Trail, trail, Walker, bind, after, after_look, part_v, joined, after_first, after_choice}
use Rattle.rows.specs.Walk.{after_round, rounds_v, met, entered, pair_v, kind_v, node_v}
use Rattle.rows.proofs.Windows.{touches_nothing}
use Rattle.rows.proofs.Pairs.{Held, pair_says, numbered}

after_none : (o : Trail) → after [] o ≡ o
unfolding after
after_none (trail a e) = refl

-- The next step after one that gave no row.
pub step : {o : Trail} {m : Bool} {l c : ℕ} (f : Bool → ℕ → ℕ → Trail) → o ≡ trail (walked m l c) [] → bind o f ≡ f m l c
unfolding bind
step {m = m} {l = l} {c = c} f e = ap (λ (o : Trail). bind o f) e ∙ after_none (f m l c)

joined_is : (b : Bool) (before len c : ℕ) → joined b before len c ≡ trail (walked b (length_if b (before + len)) c) []
unfolding joined
joined_is true before len c = refl
joined_is false before len c = refl

-- What is told of an evaluation.
abbrev pub told : Evaluation → ℕ → Trail
told z c = trail (walked z.matched z.length c) []

tells : {y z : Evaluation} (c : ℕ) → z ≡ y → told y c ≡ told z c
tells c e = ap (λ (v : Evaluation). told v c) (sym e)

-- A look at a part in that window.
look_missed :
    (b touched : Bool) (len c : ℕ) (go : ℕ → Trail) → touched ≡ false → (b ≡ false → len ≡ 0)
    → after_look b touched len go c ≡ trail (walked b len c) []
unfolding after_look
look_missed true touched len c go e f = ap (λ (t : Bool). after_look true t len go c) e
look_missed false touched len c go e f = ap (λ (l : ℕ). trail (walked false l c) []) (sym (f refl))

pair_missed :
    (b touched full : Bool) (len row c : ℕ) (go : ℕ → Trail) → touched ≡ false → (b ≡ false → len ≡ 0)
    → met true b c (entered touched full len row go c) ≡ trail (walked b len c) []
unfolding met entered
pair_missed true touched full len row c go e f = ap (λ (t : Bool). entered t full len row go c) e
pair_missed false touched full len row c go e f = ap (λ (l : ℕ). trail (walked false l c) []) (sym (f refl))

-- The rounds of a star match.
pub rounds_match : {img text : List ℕ} {a p : ℕ} {z : Evaluation} → Fresh img text (rounds_of a) p z → z.matched ≡ true
rounds_match (ev_last_round u m e) = ap (λ (w : Evaluation). w.matched) e
rounds_match (ev_round u m v e) = ap (λ (w : Evaluation). w.matched) e

module _ (img text table : List ℕ) (words : Question4 img) (narrow : rules img ≤ 64) (short : length text ≤ 65535)
    (true_words : TrueTable img text table)
    {g : LoadedGrammar} (loaded : Loaded img g) (room : ℕ)
  where
    abbrev pub Looks : Subject → ℕ → Evaluation → Type 0
    Looks (a_node m) p z =
        (ρ left : ℕ) → z.nesting ≤ suc left → (k c : ℕ)
        → kind_v text (node_v room g text table left) (pair_v g.rules ρ room text table (node_v room g text table left)) m p
        (length text + 1) 0 k c
        ≡ told z c
    Looks (a_pair r) p z =
        (ρ : ℕ) (ev : Walker) (k c : ℕ) → pair_v g.rules ρ room text table ev r p (length text + 1) 0 k c ≡ told z c
    Looks (rounds_of a) p z =
        (fuel at before : ℕ) → at + before ≡ p → length text < fuel + p → (left : ℕ) → z.nesting ≤ left → (k c : ℕ)
        → rounds_v fuel (length text) (node_v room g text table left) a at (length text + 1) 0 k before c
        ≡ trail (walked true (before + z.length) c) []

    -- A node by its number.
    pub by_number :
        (i p : ℕ) {x : Evaluation} (u : Fresh img text (a_node (node img i)) p x) → p ≤ length text → Looks (a_node (node img i)) p x
        → (left : ℕ) → x.nesting ≤ left → (k c : ℕ)
        → node_v room g text table left i p (length text + 1) 0 k c ≡ told x c
    by_number i p u h f zero most k c = absurd (omega (arith, (fresh_within u h).nested))
    by_number i p u h f (suc left) most k c =
        numbered img text table loaded room left i p (length text + 1) 0 k c ∙ f (word_b (get_or g.words i 0)) left most k c

    -- The same in a position where the node may fail.
    pub part_look :
        (i p : ℕ) {x : Evaluation} (u : Fresh img text (a_node (node img i)) p x) → p ≤ length text → Looks (a_node (node img i)) p x
        → (left : ℕ) → x.nesting ≤ left → (k c : ℕ)
        → part_v (length text) (node_v room g text table left) i p (length text + 1) 0 k c ≡ told x c
    unfolding part_v
    part_look i p {x} u h f left most k c =
        let w = fresh_within u h in
        step
        (λ m l c. after_look m (touches (length text + 1) 0 p l) l (node_v room g text table left i p (length text + 1) 0 k) c)
        (by_number i p u h f left most k c)
        ∙ look_missed x.matched (touches (length text + 1) 0 p x.length) x.length c _
        (touches_nothing (length text) p x.length w.in_text) w.failure

    -- The round that fails, and a round that matches with the rounds after it.
    last-look :
        (a p : ℕ) {x : Evaluation} (u : Fresh img text (a_node (node img a)) p x) → x.matched ≡ false → p ≤ length text
        → Looks (a_node (node img a)) p x
        → (fuel at before : ℕ) → at + before ≡ p → length text < fuel + p → (left : ℕ) → x.nesting ≤ left → (k c : ℕ)
        → rounds_v fuel (length text) (node_v room g text table left) a at (length text + 1) 0 k before c ≡ trail (walked true before c) []
    unfolding rounds_v after_round
    last-look a p u m h f zero at before j enough left most k c = absurd (omega arith)
    last-look a p {x} u m h f (suc fuel) at before j enough left most k c =
        let ev = node_v room g text table left in
        let more : ℕ → ℕ → Trail = λ l. rounds_v fuel (length text) ev a at (length text + 1) 0 k (before + l) in
        step (λ m l c. after_round m (eqb l 0) before (more l) c)
        (ap (λ (q : ℕ). part_v (length text) ev a q (length text + 1) 0 k c) j ∙ part_look a p u h f left most k c)
        ∙ ap (λ (q : Bool). after_round q (eqb x.length 0) before (more x.length) c) m

    more-look :
        (a p : ℕ) {x y : Evaluation} (u : Fresh img text (a_node (node img a)) p x) → x.matched ≡ true → p ≤ length text
        → (x.length ≡ 0 → ⊥)
        → Looks (a_node (node img a)) p x
        → Fresh img text (rounds_of a) (p + x.length) y
        → Looks (rounds_of a) (p + x.length) y
        → (fuel at before : ℕ) → at + before ≡ p → length text < fuel + p → (left : ℕ) → x.nesting ≤ left → y.nesting ≤ left
        → (k c : ℕ)
        → rounds_v fuel (length text) (node_v room g text table left) a at (length text + 1) 0 k before c
        ≡ trail (walked true (before + x.length + y.length) c) []
    unfolding rounds_v after_round
    more-look a p u m h ne f v rest zero at before j enough left most most' k c = absurd (omega arith)
    more-look a p {x} u m h ne f v rest (suc fuel) at before j enough left most most' k c =
        let ev = node_v room g text table left in
        let more : ℕ → ℕ → Trail = λ l. rounds_v fuel (length text) ev a at (length text + 1) 0 k (before + l) in
        step (λ m l c. after_round m (eqb l 0) before (more l) c)
        (ap (λ (q : ℕ). part_v (length text) ev a q (length text + 1) 0 k c) j ∙ part_look a p u h f left most k c)
        ∙ ap (λ (q : Bool). after_round q (eqb x.length 0) before (more x.length) c) m
        ∙ ap (λ (q : Bool). after_round true q before (more x.length) c) (ne_eqb x.length 0 ne)
        ∙ rest fuel at (before + x.length) (omega arith) (omega (arith, ne)) left most' k c

    pub looks :
        {s : Subject} {p : ℕ} {z : Evaluation} (u : Fresh img text s p z) → InImage img s → p ≤ length text
        → Held img text table s p (calls_of u) → Looks s p z
    unfolding kind_v after_first after_choice calls_of
    looks (ev_empty e) r h held = λ ρ left most k c. tells c e
    looks (ev_terminal e) r h held = λ ρ left most k c. tells c e
    looks {p = p} (ev_then_first_fails {a} {b} {x = x} u m e) r h held = λ ρ left most k c.
        let n = ap (λ (w : Evaluation). w.nesting) e in
        step (λ m l c. after_first m l (node_v room g text table left b (p + l) (length text + 1) 0 k) c)
        (by_number a p u h (looks u (refers img words a r.0) h held) left (omega arith) k c)
        ∙ ap (λ (q : Bool). after_first q x.length (node_v room g text table left b (p + x.length) (length text + 1) 0 k) c) m
        ∙ tells c e
    looks {p = p} (ev_then {a} {b} {x = x} {y = y} u m v e) r h held = λ ρ left most k c.
        let n = ap (λ (w : Evaluation). w.nesting) e in
        let i = fresh_within u h in
        step (λ m l c. after_first m l (node_v room g text table left b (p + l) (length text + 1) 0 k) c)
        (by_number a p u h (looks u (refers img words a r.0) h (λ y j. held y (in_left (calls_of v) j))) left (omega arith) k c)
        ∙ ap (λ (q : Bool). after_first q x.length (node_v room g text table left b (p + x.length) (length text + 1) 0 k) c) m
        ∙ step (λ m l c. joined m x.length l c)
        (by_number b (p + x.length) v i.in_text
        (looks v (refers img words b r.1) i.in_text (λ y j. held y (in_right (calls_of u) j))) left (omega arith) k c)
        ∙ joined_is y.matched x.length y.length c
        ∙ tells c e
    looks {p = p} (ev_else_first {a} {b} {x = x} u m e) r h held = λ ρ left most k c.
        let n = ap (λ (w : Evaluation). w.nesting) e in
        step (λ m l c. after_choice m l (node_v room g text table left b p (length text + 1) 0 k) c)
        (part_look a p u h (looks u (refers img words a r.0) h held) left (omega arith) k c)
        ∙ ap (λ (q : Bool). after_choice q x.length (node_v room g text table left b p (length text + 1) 0 k) c) m
        ∙ ap (λ (q : Bool). trail (walked q x.length c) []) (sym m)
        ∙ tells c e
    looks {p = p} (ev_else_second {a} {b} {x = x} {y = y} u m v e) r h held = λ ρ left most k c.
        let n = ap (λ (w : Evaluation). w.nesting) e in
        step (λ m l c. after_choice m l (node_v room g text table left b p (length text + 1) 0 k) c)
        (part_look a p u h (looks u (refers img words a r.0) h (λ y j. held y (in_left (calls_of v) j))) left (omega arith) k c)
        ∙ ap (λ (q : Bool). after_choice q x.length (node_v room g text table left b p (length text + 1) 0 k) c) m
        ∙ by_number b p v h (looks v (refers img words b r.1) h (λ y j. held y (in_right (calls_of u) j)))
        left (omega arith) k c
        ∙ tells c e
    looks {p = p} (ev_star {a} {x = x} u e) r h held = λ ρ left most k c.
        let n = ap (λ (w : Evaluation). w.nesting) e in
        looks u r h held (suc (length text)) p 0 (omega arith) (omega arith) left (omega arith) k c
        ∙ ap (λ (l : ℕ). trail (walked true l c) []) (omega arith)
        ∙ ap (λ (q : Bool). trail (walked q x.length c) []) (sym (rounds_match u))
        ∙ tells c e
    looks {p = p} (ev_last_round {a} {x = x} u m e) r h held = λ fuel at before j enough left most k c.
        let n = ap (λ (w : Evaluation). w.nesting) e in
        last-look a p u m h (looks u (refers img words a r) h held) fuel at before j enough left (omega arith) k c
        ∙ ap (λ (l : ℕ). trail (walked true l c) []) (let l = ap (λ (w : Evaluation). w.length) e in omega arith)
    looks {p = p} (ev_round {a} {x = x} {y = y} u m v e) r h held = λ fuel at before j enough left most k c.
        let n = ap (λ (w : Evaluation). w.nesting) e in
        let w = fresh_within u h in
        more-look a p u m h (λ z. still img text bodies_only u m z (ev_round u m v e))
        (looks u (refers img words a r) h (λ y j. held y (in_left (calls_of v) j)))
        v
        (looks v r w.in_text (λ y j. held y (in_right (calls_of u) j)))
        fuel at before j enough left (omega arith) (omega arith) k c
        ∙ ap (λ (l : ℕ). trail (walked true l c) []) (let l = ap (λ (w : Evaluation). w.length) e in omega arith)
    looks {p = p} (ev_not {a} {x = x} u e) r h held = λ ρ left most k c.
        let n = ap (λ (w : Evaluation). w.nesting) e in
        step (λ m l c. trail (walked (not m) 0 c) [])
        (by_number a p u h (looks u (refers img words a r) h held) left (omega arith) k c)
        ∙ tells c e
    looks {p = p} (ev_call {r} u e) l h held = λ ρ left most k c.
        looks u l h (held (record { rule = r; position = p }) here) ρ (node_v room g text table left) k c ∙ tells c e
    looks {p = p} {z = z} (ev_body {r} q u) l h held = λ ρ ev k c.
        let w = fresh_within u h in
        pair_says img text table narrow short true_words loaded (ev_body q u) l h held ρ room ev (length text + 1) 0 k c
        ∙ pair_missed z.matched (touches (length text + 1) 0 p z.length) (leb room c) z.length _ c _
        (touches_nothing (length text) p z.length w.in_text) w.failure
    looks (ev_record q) r h held = absurd (no_record q)
