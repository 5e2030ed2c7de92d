-- What holds of the loan and the ledger after every call: the invariant of demand 3, and what follows from it. Assumes nothing.
use Prim.Native.Nat.{ℕ, ◌+◌, ◌-◌, ◌≤◌, ◌<◌, ◌^◌}
use native.Mathlib.Omega.{arith}
use mathlib.Core.Path.{◌≡◌, refl, sym, ap, ◌∙◌}
use mathlib.Core.Bool.{Bool, true, false, cond}
use mathlib.Core.List.{List}
use lib.ListN.{length, take, drop, replicate, length-append, length-replicate}
use lib.Seq.{take_at}
use borrow.Author.Tests.{le-leb}
use Rattle.grammar.specs.declared.Evaluation.{Evaluation}
use Rattle.grammar.specs.Image.{rules, body}
use Rattle.grammar.specs.Evaluates.{Fresh, a_node, a_pair}
use Rattle.evaluation.specs.Calls.{Pair, In, calls_of}
use Rattle.evaluation.proofs.Plain.{fresh_within}
use Rattle.records.specs.Words.{is_held, word_of}
use Rattle.records.proofs.Codec.{word_held}
use Rattle.packrat.specs.Over.{word_at}
use Rattle.packrat.specs.True.{IsTrue}
use Rattle.packrat.proofs.OverTables.{word-possible}
use Rattle.editing.specs.Text.{opened}
use Rattle.editing.specs.Table.{table_size}
use Rattle.promises.specs.Questions.{Question8}
use Rattle.promises.specs.Reading.{NotForeign}
use Rattle.ledger.specs.Ledger.{Evaluations, Ledger, value_in}
use Rattle.ledger.specs.Demand.{Agrees}

pub record Inv (ev : Evaluations) (cap : ℕ) (rest : List ℕ) (l : Ledger) (B : List ℕ) (n : ℕ) (W : List ℕ) : Type 0 where
  pub small : cap ≤ 65535
  pub text_fits : length l.text ≤ cap
  pub length_is : n ≡ length l.text
  pub bytes_are : B ≡ opened cap l.text
  pub whole : table_size (rules l.image) cap ≤ length W
  pub words_are :
      (r q : ℕ) → r < rules l.image → q ≤ cap → word_at l.image W r q ≡ cond (l.held r q) (word_of (value_in ev l r q)) 0
  pub held_in : (r q : ℕ) → l.held r q ≡ true → (r < rules l.image) × (q ≤ length l.text)
  pub shallow : (r q : ℕ) → l.held r q ≡ true → (value_in ev l r q).nesting ≤ 4096
  pub closed :
      (r q : ℕ) → l.held r q ≡ true
      → (z : Evaluation) (u : Fresh l.image l.text (a_node (body l.image r)) q z) (y : Pair)
      → In y (calls_of u)
      → l.held y.rule y.position ≡ true
  pub after_table : drop (table_size (rules l.image) cap) W ≡ rest

-- The word of a short evaluation of small nesting is held.
pub held_word :
    (img text : List ℕ) (r q : ℕ) (x : Evaluation)
    → Fresh img text (a_pair r) q x
    → q ≤ length text
    → length text ≤ 65535
    → x.nesting ≤ 4096
    → is_held (word_of x) ≡ true
held_word img text r q x u h short k =
    le-leb (2 ^ 63) (word_of x) (word_held x (word-possible x q (length text) short (fresh_within u h) k).0)

pub opened-length : (cap : ℕ) (text : List ℕ) → length text ≤ cap → length (opened cap text) ≡ cap
opened-length cap text h =
    length-append text (replicate (cap - length text) 0)
    ∙ ap (λ (k : ℕ). length text + k) (length-replicate (cap - length text) 0)
    ∙ omega arith

module _ {ev : Evaluations} {cap : ℕ} {rest : List ℕ} {l : Ledger} {B : List ℕ} {n : ℕ} {W : List ℕ} (v : Inv ev cap rest l B n W) where
  pub cap_is : length B ≡ cap
  cap_is = ap length v.bytes_are ∙ opened-length cap l.text v.text_fits

  pub text_is : take n B ≡ l.text
  text_is =
      ap (λ (k : ℕ). take k B) v.length_is
      ∙ ap (take (length l.text)) v.bytes_are
      ∙ take_at l.text (replicate (cap - length l.text) 0) (length l.text) refl

  pub short_text : length l.text ≤ 65535
  short_text = omega (arith, v.small, v.text_fits)

  -- Questions 8 holds of the next call.
  pub lent : Question8 l.image (length B) n (length W)
  lent =
      record {
        short = rw cap_is v.small;
        text_fits = rw (cap_is, v.length_is) v.text_fits;
        whole_table = rw cap_is v.whole;
      }

  -- The evaluation of a held pair.
  pub value_of : (r q : ℕ) → l.held r q ≡ true → Fresh l.image l.text (a_pair r) q (value_in ev l r q)
  value_of r q e = let k = v.held_in r q e in ev.value_is l.image l.accepted l.text r q k.0 k.1

  -- A word is held where the ledger holds the pair.
  pub holds_is : (r q : ℕ) → r < rules l.image → q ≤ cap → is_held (word_at l.image W r q) ≡ l.held r q
  holds_is r q k h = ap is_held (v.words_are r q k h) ∙ go (l.held r q) refl
    where
      go : (b : Bool) → l.held r q ≡ b → is_held (cond b (word_of (value_in ev l r q)) 0) ≡ b
      go true e = held_word l.image l.text r q (value_in ev l r q) (value_of r q e) (v.held_in r q e).1 short_text (v.shallow r q e)
      go false e = refl

  pub true_word : (r q : ℕ) → l.held r q ≡ true → IsTrue l.image l.text r q (word_at l.image W r q)
  true_word r q e =
      let k = v.held_in r q e in
      record {
        value = value_in ev l r q;
        evaluated = value_of r q e;
        word_is =
            v.words_are r q k.0 (omega (arith, k.1, v.text_fits))
            ∙ ap (λ (b : Bool). cond b (word_of (value_in ev l r q)) 0) e;
        nesting_allowed = v.shallow r q e;
      }

  pub not_foreign : NotForeign l.image l.text W
  not_foreign =
      record {
        true_words =
            record { held_words = λ r q k h e. true_word r q (sym (holds_is r q k (omega (arith, h, v.text_fits))) ∙ e) };
        closed =
            record {
              called_held = λ r q k h e z u y i.
                  let c = v.closed r q (sym (holds_is r q k (omega (arith, h, v.text_fits))) ∙ e) z u y i in
                  let m = v.held_in y.rule y.position c in
                  holds_is y.rule y.position m.0 (omega (arith, m.1, v.text_fits)) ∙ c;
            };
      }

  pub agrees : Agrees ev cap rest l B n W
  agrees =
      record {
        text_fits = v.text_fits;
        length_is = v.length_is;
        bytes_are = v.bytes_are;
        words_are = v.words_are;
        held_in = v.held_in;
        true_words = true_word;
        whole_table = v.whole;
        after_table = v.after_table;
      }
