-- Over any table the walk ends, gives no more rows than fit, stays in the text, and is refused with 12, 14 or 15 if at all.
-- Assumes nothing.
--     node_bounded, pair_bounded    for every loaded grammar, text, table, window and number of rows before
--     start_bounded                 the walk of the start pair, before which there is no row
use Rattle.grammar.specs.declared.refusal.Refusal.{Refusal}
use Prim.Native.Nat.{ℕ, zero, suc, ◌+◌, ◌%◌, ◌≤◌, ◌<◌}
use native.Mathlib.Omega.{arith}
use mathlib.Core.Path.{◌≡◌, refl, ap, ◌∙◌}
use mathlib.Core.Bool.{Bool, true, false, not, ◌&&◌}
use mathlib.Core.List.{List, [], ◌∷◌, ◌++◌, append-nil}
use lib.ListN.{length, get_or, length-append}
use lib.Dec.{leb, eqb}
use borrow.Author.Tests.{leb-false}
use Rattle.grammar.proofs.Bools.{both}
use Rattle.grammar.specs.declared.node.Node.{Node}
use Rattle.grammar.specs.declared.node.Node.TheVariants.{Empty, Text, Sequence, Choice, Star, NotPredicate, Call, Unlawful}
use Rattle.grammar.proofs.Terminals.{shape}
use Rattle.records.specs.Words.{is_held, possible, matched_of, length_of}
use Rattle.records.specs.Slots.{slot_of}
use Rattle.records.proofs.Test.{says_possible}
use Rattle.loaded.specs.declared.form.LoadedGrammar.{LoadedGrammar}
use Rattle.loaded.specs.Loaded.{word_b, word_node}
use Rattle.rows.specs.Rows.{row_word}
use Rattle.rows.specs.Window.{touches}
use Rattle.rows.specs.Walk.{Walked, walked, stopped, Trail, trail, Walker, bind, after, after_look, part_v, joined, after_first}
use Rattle.rows.specs.Walk.{after_choice, after_round, rounds_v, met, entered, pair_v, kind_v, node_v, start_v}
use Rattle.rows.specs.Bounds.{Stops, impossible, too_deep, no_slot, May, Bounded}

module _ {n room : ℕ} where
  pub answers : {p c len : ℕ} {m : Bool} → p + len ≤ n → c ≤ room → Bounded n room p c (trail (walked m len c) [])
  answers {c = c} {len = len} {m = m} h few =
      record {
        answer = walked m len c;
        words = [];
        is = refl;
        fit = omega arith;
        may = record { in_text = h; counted = omega arith };
      }

  pub refuses : {p c : ℕ} {k : Refusal} → Stops k → c ≤ room → Bounded n room p c (trail (stopped k) [])
  refuses {k = k} h few = record { answer = stopped k; words = []; is = refl; fit = omega arith; may = h }

  pub next :
      {p q c : ℕ} {o : Trail} → Bounded n room p c o → (f : Bool → ℕ → ℕ → Trail)
      → ((m : Bool) (l d : ℕ) → p + l ≤ n → d ≤ room → Bounded n room q d (f m l d))
      → Bounded n room q c (bind o f)
  unfolding bind after
  next {p} {q} {c} {o} b f g = go b.answer b.words b.is b.fit b.may
    where
      go :
          (a : Walked) (ws : List ℕ) → o ≡ trail a ws → c + length ws ≤ room → May n p c (length ws) a
          → Bounded n room q c (bind o f)
      go (stopped k) ws e few may =
          record { answer = stopped k; words = ws; is = ap (λ (t : Trail). bind t f) e; fit = few; may = may }
      go (walked m l d) ws e few may = then-go (g m l d may.in_text (omega (arith, may.counted)))
        where
          then-go : Bounded n room q d (f m l d) → Bounded n room q c (bind o f)
          then-go x =
              let k = length-append ws x.words in
              record {
                answer = x.answer;
                words = ws ++ x.words;
                is = ap (λ (t : Trail). bind t f) e ∙ ap (after ws) x.is;
                fit = omega (arith, x.fit, may.counted);
                may = later x.answer x.may;
              }
            where
              later : (a : Walked) → May n q d (length x.words) a → May n q c (length (ws ++ x.words)) a
              later (stopped k) i = i
              later (walked m' l' d') i =
                  let k = length-append ws x.words in
                  record { in_text = i.in_text; counted = omega (arith, i.counted, may.counted) }

  -- A row, where there is a slot for it, and then a walk of which only the rows are kept.
  row_bounded :
      {p q c : ℕ} (len row : ℕ) {o : Trail} → c < room → p + len ≤ n → Bounded n room q (c + 1) o
      → Bounded n room p c (after (row ∷ []) (bind o (λ m l c. trail (walked true len c) [])))
  unfolding bind after
  row_bounded {p} {q} {c} len row {o} h i b = go b.answer b.words b.is b.fit b.may
    where
      go :
          (a : Walked) (ws : List ℕ) → o ≡ trail a ws → c + 1 + length ws ≤ room → May n q (c + 1) (length ws) a
          → Bounded n room p c (after (row ∷ []) (bind o (λ m l c. trail (walked true len c) [])))
      go (stopped k) ws e few may =
          record {
            answer = stopped k;
            words = row ∷ ws;
            is = ap (λ (t : Trail). after (row ∷ []) (bind t (λ m l c. trail (walked true len c) []))) e;
            fit = omega arith;
            may = may;
          }
      go (walked m l d) ws e few may =
          record {
            answer = walked true len d;
            words = row ∷ ws;
            is =
                ap (λ (t : Trail). after (row ∷ []) (bind t (λ m l c. trail (walked true len c) []))) e
                ∙ ap (λ (vs : List ℕ). trail (walked true len d) (row ∷ vs)) (append-nil ws);
            fit = omega arith;
            may = record { in_text = i; counted = omega (arith, may.counted) };
          }

-- What walks nodes and stays in bounds.
abbrev pub Stays : (n room : ℕ) → Walker → Type 0
Stays n room ev = (i at lo hi k c : ℕ) → at ≤ n → c ≤ room → Bounded n room at c (ev i at lo hi k c)

module _ (n room : ℕ) (ev : Walker) (stays : Stays n room ev) where
  look_bounded :
      (m touched : Bool) (p len : ℕ) (go : ℕ → Trail) (c : ℕ) → p + len ≤ n → c ≤ room
      → ((d : ℕ) → d ≤ room → Bounded n room p d (go d)) → Bounded n room p c (after_look m touched len go c)
  unfolding after_look
  look_bounded false touched p len go c h few f = answers (omega arith) few
  look_bounded true false p len go c h few f = answers h few
  look_bounded true true p len go c h few f = f c few

  pub part_bounded : Stays n room (part_v n ev)
  unfolding part_v
  part_bounded i at lo hi k c h few =
      next (stays i at (n + 1) 0 k c h few) (λ m l c. after_look m (touches lo hi at l) l (ev i at lo hi k) c)
      (λ m l d j few'. look_bounded m (touches lo hi at l) at l (ev i at lo hi k) d j few' (λ d e. stays i at lo hi k d h e))

  round_bounded :
      (m still : Bool) (at before : ℕ) (more : ℕ → Trail) (c : ℕ) → at + before ≤ n → c ≤ room
      → ((d : ℕ) → d ≤ room → Bounded n room at d (more d)) → Bounded n room at c (after_round m still before more c)
  unfolding after_round
  round_bounded false still at before more c h few f = answers h few
  round_bounded true true at before more c h few f = refuses impossible few
  round_bounded true false at before more c h few f = f c few

  pub rounds_bounded :
      (fuel a at lo hi k before c : ℕ) → at + before ≤ n → c ≤ room → Bounded n room at c (rounds_v fuel n ev a at lo hi k before c)
  unfolding rounds_v
  rounds_bounded zero a at lo hi k before c h few = refuses impossible few
  rounds_bounded (suc f) a at lo hi k before c h few =
      next (part_bounded a (at + before) lo hi k c h few)
      (λ m l c. after_round m (eqb l 0) before (rounds_v f n ev a at lo hi k (before + l)) c)
      (λ m l d j few'.
      round_bounded m (eqb l 0) at before (rounds_v f n ev a at lo hi k (before + l)) d h few'
      (λ d e. rounds_bounded f a at lo hi k (before + l) d (omega arith) e))

module _ (rules root room : ℕ) (text table : List ℕ) (ev : Walker) (stays : Stays (length text) room ev) where
  entered_bounded :
      (touched full : Bool) (at len row : ℕ) (go : ℕ → Trail) (c : ℕ) → leb room c ≡ full → at + len ≤ length text → c ≤ room
      → ((d : ℕ) → d ≤ room → Bounded (length text) room at d (go d))
      → Bounded (length text) room at c (entered touched full len row go c)
  unfolding entered
  entered_bounded false full at len row go c e h few f = answers h few
  entered_bounded true true at len row go c e h few f = refuses no_slot few
  entered_bounded true false at len row go c e h few f =
      let j = leb-false room c e in
      row_bounded len row (omega arith) h (f (c + 1) (omega arith))

  pub pair_bounded : Stays (length text) room (pair_v rules root room text table ev)
  unfolding pair_v met
  pair_bounded r at lo hi k c h few =
      let word = get_or table (slot_of rules r at) 0 in
      go (is_held word && possible word at (length text)) refl (matched_of word)
    where
      go :
          (known : Bool) → is_held (get_or table (slot_of rules r at) 0) && possible (get_or table (slot_of rules r at) 0) at (length text) ≡ known
          → (m : Bool)
          → Bounded (length text) room at c
          (met known m c
          (entered (touches lo hi at (length_of (get_or table (slot_of rules r at) 0))) (leb room c) (length_of (get_or table (slot_of rules r at) 0))
          (row_word (record { rule = r % 256; depth = k; start = at; length = length_of (get_or table (slot_of rules r at) 0) }))
          (ev root at lo hi (k + 1)) c))
      go false e m = refuses impossible few
      go true e false = answers (omega arith) few
      go true e true =
          let word = get_or table (slot_of rules r at) 0 in
          entered_bounded (touches lo hi at (length_of word)) (leb room c) at (length_of word)
          (row_word (record { rule = r % 256; depth = k; start = at; length = length_of word })) (ev root at lo hi (k + 1)) c refl
          (says_possible word at (length text) (both (is_held word) (possible word at (length text)) e).1).in_text few
          (λ d j. stays root at lo hi (k + 1) d h j)

joined_bounded :
    (n room : ℕ) (m : Bool) (at before len c : ℕ) → at + before + len ≤ n → c ≤ room → Bounded n room at c (joined m before len c)
unfolding joined
joined_bounded n room true at before len c h few = answers (omega arith) few
joined_bounded n room false at before len c h few = answers (omega arith) few

module _ (room : ℕ) (text : List ℕ) (ev called : Walker) (stays : Stays (length text) room ev) (calls : Stays (length text) room called)
  where
    first-bounded :
        (m : Bool) (b at before lo hi k c : ℕ) → at + before ≤ length text → c ≤ room
        → Bounded (length text) room at c (after_first m before (ev b (at + before) lo hi k) c)
    unfolding after_first
    first-bounded false b at before lo hi k c h few = answers (omega arith) few
    first-bounded true b at before lo hi k c h few =
        next (stays b (at + before) lo hi k c h few) (λ m l c. joined m before l c)
        (λ m l d j few'. joined_bounded (length text) room m at before l d j few')

    choice-bounded :
        (m : Bool) (b at len lo hi k c : ℕ) → at ≤ length text → at + len ≤ length text → c ≤ room
        → Bounded (length text) room at c (after_choice m len (ev b at lo hi k) c)
    unfolding after_choice
    choice-bounded true b at len lo hi k c h j few = answers j few
    choice-bounded false b at len lo hi k c h j few = stays b at lo hi k c h few

    pub kind_bounded :
        (m : Node) (at lo hi k c : ℕ) → at ≤ length text → c ≤ room → Bounded (length text) room at c (kind_v text ev called m at lo hi k c)
    unfolding kind_v
    kind_bounded Empty at lo hi k c h few = answers (omega arith) few
    kind_bounded (Text m) at lo hi k c h few = answers (shape m text at h).in_text few
    kind_bounded (Sequence a b) at lo hi k c h few =
        next (stays a at lo hi k c h few) (λ m l c. after_first m l (ev b (at + l) lo hi k) c)
        (λ m l d j few'. first-bounded m b at l lo hi k d j few')
    kind_bounded (Choice a b) at lo hi k c h few =
        next (part_bounded (length text) room ev stays a at lo hi k c h few) (λ m l c. after_choice m l (ev b at lo hi k) c)
        (λ m l d j few'. choice-bounded m b at l lo hi k d h j few')
    kind_bounded (Star a) at lo hi k c h few =
        rounds_bounded (length text) room ev stays (suc (length text)) a at lo hi k 0 c (omega arith) few
    kind_bounded (NotPredicate a) at lo hi k c h few =
        next (stays a at (length text + 1) 0 k c h few) (λ m l c. trail (walked (not m) 0 c) [])
        (λ m l d j few'. answers (omega arith) few')
    kind_bounded (Call r) at lo hi k c h few = calls r at lo hi k c h few
    kind_bounded Unlawful at lo hi k c h few = refuses impossible few

pub node_bounded : (room : ℕ) (g : LoadedGrammar) (text table : List ℕ) (left : ℕ) → Stays (length text) room (node_v room g text table left)
unfolding node_v
node_bounded room g text table zero i at lo hi k c h few = refuses too_deep few
node_bounded room g text table (suc left) i at lo hi k c h few =
    let inner = node_bounded room g text table left in
    kind_bounded room text (node_v room g text table left)
    (pair_v g.rules (word_b (get_or g.words i 0)) room text table (node_v room g text table left)) inner
    (pair_bounded g.rules (word_b (get_or g.words i 0)) room text table (node_v room g text table left) inner)
    (word_node (get_or g.words i 0)) at lo hi k c h few

pub start_bounded :
    (room : ℕ) (g : LoadedGrammar) (text table : List ℕ) (lo hi : ℕ) → Bounded (length text) room 0 0 (start_v room g text table lo hi)
unfolding start_v
start_bounded room g text table lo hi =
    pair_bounded g.rules g.start.root room text table (node_v room g text table 4096) (node_bounded room g text table 4096) g.start.rule 0
    lo hi _ 0 (omega arith) (omega arith)
