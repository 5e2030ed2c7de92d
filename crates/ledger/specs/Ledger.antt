-- The plain ledger: "a text and a set of pairs, the ones held. It is fed the image, cap and what each call itself brings [..], and nothing
-- that the program keeps or answers." Its state has the image too, which these calls do not change.
use Rattle.std.specs.Prelude.{Ok, Err}
use Rattle.grammar.specs.declared.refusal.Refusal.TheVariants.{EditRange, EditRoom, Nesting, Pair, Rows}
use Rattle.std.specs.Prelude.{ℕ, ◌+◌, ◌≤◌, ◌<◌, ◌≡◌, Bool, true, false, cond, not, ◌&&◌, ◌||◌, List, [], ◌∷◌, ◌↔◌, length, leb, ltb}
use Rattle.grammar.specs.declared.Evaluation.{Evaluation}
use Rattle.grammar.specs.Image.{rules, start}
use Rattle.grammar.specs.Questions.{Accepted}
use Rattle.grammar.specs.Evaluates.{Fresh, a_pair}
use Rattle.evaluation.specs.Calls.{Reached}
use Rattle.evaluation.specs.Counts.{count_pairs}
use Rattle.records.specs.Words.{word_of}
use Rattle.rows.specs.Rows.{Row, rows_of, row_words}
use Rattle.editing.specs.Text.{new_length, edited}
use Rattle.editing.specs.Pairs.{stands_after}
use Rattle.promises.specs.Answers.{EditAnswer, LookUpAnswer, ReadAnswer, ListAnswer, sheet_reading}
use Rattle.promises.specs.declared.SheetReading.{SheetReading}

-- What the ledger knows of a text by an accepted image: the evaluation of each pair by Ford's rules without records, which pairs are
-- reached, and the rows of the start pair's evaluation. Any functions that give these will do; proofs/Fresh.antt has such functions, and
-- shows that all give the same.
pub record Evaluations : Type 0 where
  pub value : (img : List ℕ) → Accepted img → (text : List ℕ) (rule position : ℕ) → Evaluation
  pub value_is :
      (img : List ℕ) (accepted : Accepted img) (text : List ℕ) (rule position : ℕ)
      → rule < rules img
      → position ≤ length text
      → Fresh img text (a_pair rule) position (value img accepted text rule position)
  pub reached : (img : List ℕ) → Accepted img → (text : List ℕ) (rule position : ℕ) → Bool
  pub reached_is :
      (img : List ℕ) (accepted : Accepted img) (text : List ℕ) (rule position : ℕ)
      → (reached img accepted text rule position ≡ true) ↔ Reached img text (record { rule = rule; position = position })
  pub rows : (img : List ℕ) → Accepted img → (text : List ℕ) → List Row
  pub rows_are :
      (img : List ℕ) (accepted : Accepted img) (text : List ℕ) {z : Evaluation} (d : Fresh img text (a_pair (start img)) 0 z)
      → rows img accepted text ≡ rows_of d 0

-- What each call itself brings: "s, e and r; rule and position; the number of row slots".
pub data Call : Type 0 where
  edit : (s e : ℕ) (r : List ℕ) → Call
  reading : Call
  look_up : (rule position : ℕ) → Call
  listing : (slots : ℕ) → Call

-- "Each call along it has given the ledger's answer or number, an answered listing its rows too": the words of the rows.
pub data Reply : Type 0 where
  edits : EditAnswer → Reply
  reads : ReadAnswer → Reply
  finds : LookUpAnswer → Reply
  lists : ListAnswer → (rows : List ℕ) → Reply

pub record Ledger : Type 0 where
  pub image : List ℕ
  pub accepted : Accepted image
  pub text : List ℕ
  pub held : (rule position : ℕ) → Bool

-- "Open: copies the text, [..]; the set is empty."
abbrev pub opened_ledger : (img : List ℕ) → Accepted img → (text : List ℕ) → Ledger
opened_ledger img accepted text = record { image = img; accepted = accepted; text = text; held = λ rule q. false }

-- The evaluation of a pair of the ledger's text, and whether the pair is reached.
abbrev pub value_in : Evaluations → Ledger → (rule position : ℕ) → Evaluation
value_in ev l = ev.value l.image l.accepted l.text

abbrev pub reached_in : Evaluations → Ledger → (rule position : ℕ) → Bool
reached_in ev l = ev.reached l.image l.accepted l.text

-- The words of the rows of the ledger's text.
abbrev pub rows_in : Evaluations → Ledger → List ℕ
rows_in ev l = row_words (ev.rows l.image l.accepted l.text)

-- What a call answers and what it leaves.
pub record Turn : Type 0 where
  pub reply : Reply
  pub left : Ledger

-- "It asks questions 9 to 11, 14 and 15 of its own text".
abbrev pub passes9 : Ledger → (s e : ℕ) → Bool
passes9 l s e = leb s e && leb e (length l.text)

abbrev pub passes10 : (cap : ℕ) → Ledger → (s e : ℕ) → (r : List ℕ) → Bool
passes10 cap l s e r = leb (new_length (length l.text) s e (length r)) cap

abbrev pub passes11 : Ledger → (rule position : ℕ) → Bool
passes11 l rule position = ltb rule (rules l.image) && leb position (length l.text)

-- "bytes s to e − 1 give way to r"
abbrev pub edited_text : Ledger → (s e : ℕ) → List ℕ → List ℕ
edited_text l s e r = edited l.text s e r

-- How many pairs of a text pass a test.
abbrev pub pairs_of : (img text : List ℕ) → (ℕ → ℕ → Bool) → ℕ
pairs_of img text test = count_pairs (rules img) (length text + 1) test

module _ (ev : Evaluations) where
  abbrev pub passes14 : Ledger → Bool
  passes14 l = leb (value_in ev l (start l.image) 0).nesting 4096

  abbrev pub passes15 : Ledger → (slots : ℕ) → Bool
  passes15 l slots = leb (length (rows_in ev l)) slots

  -- The pairs that stand after an edit. "Examined is the fresh one on the old text".
  abbrev pub standing : Ledger → (s e : ℕ) → List ℕ → (rule q : ℕ) → Bool
  standing l s e r rule q =
      stands_after (l.held rule) (λ p. (value_in ev l rule p).examined) (length l.text) s e (length r) q

  -- "Evaluations counts reached pairs not held before."
  abbrev pub new_pairs : Ledger → ℕ
  new_pairs l = pairs_of l.image l.text (λ rule q. reached_in ev l rule q && not (l.held rule q))

  -- "a call that fails one gets that number", and "changes nothing". "The answer gives the new length and the number of pairs standing."
  abbrev pub edit_turn : (passes9 passes10 : Bool) → Ledger → (s e : ℕ) → List ℕ → Turn
  edit_turn false b l s e r = record { reply = edits (Err EditRange); left = l }
  edit_turn true false l s e r = record { reply = edits (Err EditRoom); left = l }
  edit_turn true true l s e r =
      record {
        reply =
            edits
            (Ok
            (record {
              length = length (edited_text l s e r);
              standing = pairs_of l.image (edited_text l s e r) (standing l s e r);
            }));
        left = record { image = l.image; accepted = l.accepted; text = edited_text l s e r; held = standing l s e r };
      }

  -- "Reading: the answer is the start pair's evaluation, as whole, part or none [..]. The set gains every reached pair. [..] A
  -- reading refused with 14 empties the set."
  abbrev pub read_answer : Ledger → SheetReading
  read_answer l = sheet_reading (length l.text) (value_in ev l (start l.image) 0) (new_pairs l)

  abbrev pub read_left : Ledger → Ledger
  read_left l =
      record {
        image = l.image;
        accepted = l.accepted;
        text = l.text;
        held = λ rule q. l.held rule q || reached_in ev l rule q;
      }

  abbrev pub read_turn : (passes14 : Bool) → Ledger → Turn
  read_turn false l = record { reply = reads (Err Nesting); left = opened_ledger l.image l.accepted l.text }
  read_turn true l = record { reply = reads (Ok (read_answer l)); left = read_left l }

  -- "To it a listing is a reading, also one refused with 15." "a listing's rows are those of the ledger's text".
  abbrev pub list_turn : (passes14 passes15 : Bool) → Ledger → Turn
  list_turn false b l = record { reply = lists (Err Nesting) []; left = (read_turn false l).left }
  list_turn true false l = record { reply = lists (Err Rows) []; left = (read_turn true l).left }
  list_turn true true l =
      record {
        reply = lists (Ok (record { reading = read_answer l; rows = length (rows_in ev l) })) (rows_in ev l);
        left = (read_turn true l).left;
      }

  -- "Look-up: gives the true word of a held pair, else 0."
  abbrev pub look_up_turn : (passes11 : Bool) → Ledger → (rule position : ℕ) → Turn
  look_up_turn false l rule position = record { reply = finds (Err Pair); left = l }
  look_up_turn true l rule position =
      record {
        reply =
            finds
            (Ok
            (cond (l.held rule position) (word_of (value_in ev l rule position)) 0));
        left = l;
      }

  unfoldable pub turn : (cap : ℕ) → Ledger → Call → Turn
  turn cap l (edit s e r) = edit_turn (passes9 l s e) (passes10 cap l s e r) l s e r
  turn cap l reading = read_turn (passes14 l) l
  turn cap l (look_up rule position) = look_up_turn (passes11 l rule position) l rule position
  turn cap l (listing slots) = list_turn (passes14 l) (passes15 l slots) l

  -- A list of calls: every reply along it, and what is left.
  unfoldable pub replies : (cap : ℕ) → Ledger → List Call → List Reply
  replies cap l [] = []
  replies cap l (c ∷ cs) = (turn cap l c).reply ∷ replies cap (turn cap l c).left cs

  unfoldable pub left_by : (cap : ℕ) → Ledger → List Call → Ledger
  left_by cap l [] = l
  left_by cap l (c ∷ cs) = left_by cap (turn cap l c).left cs
