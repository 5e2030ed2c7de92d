-- Where rows lie: what matched holds its rows, their rules are the image's, and their depth is below the nesting. A listing that
-- is not refused with 14 has a depth of at most 4,095 in each row, so that the fields of its word fit. Assumes nothing.
--     rows_inside    the rows of a subject at a position of the text
--     start_rows     the rows of the start pair
--     start_fields   the words of these rows have their fields, and zero bits between rule and depth
use Prim.Native.Nat.{ℕ, ◌+◌, ◌≤◌, ◌<◌}
use native.Mathlib.Omega.{arith}
use mathlib.Core.Path.{◌≡◌, refl, ap, ◌∙◌}
use mathlib.Core.Bool.{Bool, true, false}
use mathlib.Core.List.{List, [], ◌∷◌, ◌++◌}
use lib.ListN.{length}
use Rattle.grammar.specs.declared.Evaluation.{Evaluation}
use Rattle.grammar.specs.Image.{rules, root, body, start}
use Rattle.grammar.specs.Questions.{Question4, Accepted}
use Rattle.grammar.specs.Evaluates.{Fresh, Subject, a_node, a_pair, rounds_of, length_if}
use Rattle.grammar.specs.Evaluates.{ev_empty, ev_terminal, ev_then_first_fails, ev_then, ev_else_first, ev_else_second}
use Rattle.grammar.specs.Evaluates.{ev_star, ev_last_round, ev_round, ev_not, ev_call, ev_body, ev_record}
use Rattle.grammar.proofs.References.{refers, root_in_range}
use Rattle.grammar.proofs.Determinism.{no_record}
use Rattle.evaluation.proofs.Plain.{fresh_within}
use Rattle.evaluation.proofs.Range.{InImage}
use Rattle.rows.specs.Rows.{Row, row_word, Fields, AllFields, if_matched, rows_of}

-- A row of a rule of so many, between two positions, with a depth below the bound.
pub record Inside (rules from to top : ℕ) (r : Row) : Type 0 where
  pub rule_in : r.rule < rules
  pub from_on : from ≤ r.start
  pub up_to : r.start + r.length ≤ to
  pub shallow : r.depth < top

pub data AllInside (rules from to top : ℕ) : List Row → Type 0 where
  none_left : AllInside rules from to top []
  and_then : {r : Row} {rs : List Row} → Inside rules from to top r → AllInside rules from to top rs → AllInside rules from to top (r ∷ rs)

module _ {R : ℕ} where
  wider :
      {from to top from' to' top' : ℕ} {rs : List Row} → from' ≤ from → to ≤ to' → top ≤ top'
      → AllInside R from to top rs → AllInside R from' to' top' rs
  wider a b c none_left = none_left
  wider a b c (and_then {r = r} i l) =
      and_then {r = r}
      (record {
        rule_in = i.rule_in;
        from_on = omega (arith, i.from_on);
        up_to = omega (arith, i.up_to);
        shallow = omega (arith, i.shallow);
      })
      (wider a b c l)

  both_inside :
      {from to top : ℕ} {rs ss : List Row} → AllInside R from to top rs → AllInside R from to top ss → AllInside R from to top (rs ++ ss)
  both_inside none_left m = m
  both_inside (and_then i l) m = and_then i (both_inside l m)

  if_inside : {from to top : ℕ} (b : Bool) {rs : List Row} → (b ≡ true → AllInside R from to top rs) → AllInside R from to top (if_matched b rs)
  if_inside true f = f refl
  if_inside false f = none_left

-- A call's own row is not inside what calls it: the rows of a node are one deeper below its nesting than those of a pair.
abbrev slack : Subject → ℕ
slack (a_node m) = 1
slack (a_pair r) = 0
slack (rounds_of a) = 1

-- The bound on depths: top + slack ≡ rows around + nesting.
module _ (img text : List ℕ) (words : Question4 img) where
  pub inside :
      {s : Subject} {p : ℕ} {z : Evaluation} (u : Fresh img text s p z) → InImage img s → p ≤ length text
      → (k top : ℕ) → k + z.nesting ≤ top + slack s → AllInside (rules img) p (p + z.length) top (rows_of u k)
  unfolding rows_of body
  inside (ev_empty e) r h k top t = none_left
  inside (ev_terminal e) r h k top t = none_left
  inside (ev_then_first_fails u m e) r h k top t = none_left
  inside {p = p} {z = z} (ev_then {a} {b} {x = x} {y = y} u m v e) r h k top t =
      let n = ap (λ (w : Evaluation). w.nesting) e in
      if_inside y.matched
      (λ q.
      let l : z.length ≡ x.length + y.length =
      ap (λ (w : Evaluation). w.length) e ∙ ap (λ (c : Bool). length_if c (x.length + y.length)) q in
      both_inside
      (wider (omega arith) (omega arith) (omega arith) (inside u (refers img words a r.0) h k top (omega arith)))
      (wider (omega arith) (omega arith) (omega arith)
      (inside v (refers img words b r.1) (fresh_within u h).in_text k top (omega arith))))
  inside (ev_else_first {a} u m e) r h k top t =
      let n = ap (λ (w : Evaluation). w.nesting) e in
      let l = ap (λ (w : Evaluation). w.length) e in
      wider (omega arith) (omega arith) (omega arith) (inside u (refers img words a r.0) h k top (omega arith))
  inside (ev_else_second {a} {b} u m v e) r h k top t =
      let n = ap (λ (w : Evaluation). w.nesting) e in
      let l = ap (λ (w : Evaluation). w.length) e in
      wider (omega arith) (omega arith) (omega arith) (inside v (refers img words b r.1) h k top (omega arith))
  inside (ev_star u e) r h k top t =
      let n = ap (λ (w : Evaluation). w.nesting) e in
      let l = ap (λ (w : Evaluation). w.length) e in
      wider (omega arith) (omega arith) (omega arith) (inside u r h k top (omega arith))
  inside (ev_last_round u m e) r h k top t = none_left
  inside (ev_round {a} u m v e) r h k top t =
      let n = ap (λ (w : Evaluation). w.nesting) e in
      let l = ap (λ (w : Evaluation). w.length) e in
      both_inside
      (wider (omega arith) (omega arith) (omega arith) (inside u (refers img words a r) h k top (omega arith)))
      (wider (omega arith) (omega arith) (omega arith) (inside v r (fresh_within u h).in_text k top (omega arith)))
  inside (ev_not u e) r h k top t = none_left
  inside (ev_call u e) r h k top t =
      let n = ap (λ (w : Evaluation). w.nesting) e in
      let l = ap (λ (w : Evaluation). w.length) e in
      wider (omega arith) (omega arith) (omega arith) (inside u r h k top (omega arith))
  inside {p = p} {z = z} (ev_body {r} q u) l h k top t =
      if_inside z.matched
      (λ c.
      and_then {r = record { rule = r; depth = k; start = p; length = z.length }}
      (record { rule_in = l; from_on = omega arith; up_to = omega arith; shallow = omega (arith, (fresh_within u h).nested) })
      (inside u (refers img words (root img r) (root_in_range img words r l)) h (k + 1) top (omega arith)))
  inside (ev_record q) l h k top t = absurd (no_record q)

  pub rows_inside :
      {r p : ℕ} {z : Evaluation} (u : Fresh img text (a_pair r) p z) → r < rules img → p ≤ length text → (k : ℕ)
      → AllInside (rules img) p (p + z.length) (k + z.nesting) (rows_of u k)
  rows_inside {z = z} u l h k = inside u l h k (k + z.nesting) (omega arith)

-- The rows of a text: they lie in the text, and their depth is below the start pair's nesting.
pub start_rows :
    (img text : List ℕ) → Accepted img → {z : Evaluation} (u : Fresh img text (a_pair (start img)) 0 z)
    → AllInside (rules img) 0 (length text) z.nesting (rows_of u 0)
start_rows img text a {z} u =
    wider (omega arith) (omega (arith, (fresh_within u (omega arith)).in_text)) (omega arith)
    (rows_inside img text a.lawful.words u a.lawful.counts.start_rule (omega arith) 0)

-- The word of a row that lies in a short text has its fields.
pub fields_fit : {R from to top : ℕ} {r : Row} → R ≤ 64 → to ≤ 65535 → top ≤ 4096 → Inside R from to top r → Fields (row_word r) r
unfolding row_word
fields_fit {r = r} a b c i =
    record {
      rule_fits = omega (arith, i.rule_in);
      depth_fits = omega (arith, i.shallow);
      start_fits = omega (arith, i.up_to);
      length_fits = omega (arith, i.up_to);
      all_bits = omega arith;
    }

all_fields : {R from to top : ℕ} {rs : List Row} → R ≤ 64 → to ≤ 65535 → top ≤ 4096 → AllInside R from to top rs → AllFields rs
all_fields a b c none_left = tt
all_fields a b c (and_then {r = r} i l) = (fields_fit {r = r} a b c i, all_fields a b c l)

-- So has every row of a text that is not too deep.
pub start_fields :
    (img text : List ℕ) → Accepted img → length text ≤ 65535 → {z : Evaluation} (u : Fresh img text (a_pair (start img)) 0 z)
    → z.nesting ≤ 4096 → AllFields (rows_of u 0)
start_fields img text a short u deep = all_fields a.lawful.counts.few_rules short deep (start_rows img text a u)
