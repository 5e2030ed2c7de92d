-- The sessions of the marked cases: their replies by computation, for the ledger and so for every run. Assumes nothing.
use Prim.Native.Nat.{ℕ, ◌≤◌}
use native.Mathlib.Omega.{arith}
use mathlib.Core.Path.{◌≡◌, refl}
use mathlib.Core.List.{List, []}
use lib.ListN.{length, replicate}
use Rattle.grammar.specs.Image.{rules, nodes, start, rule_word, root, node_word, fields_at, node_of, body}
use Rattle.grammar.specs.Characters.{later_bytes}
use Rattle.grammar.specs.Terminal.{other_case, accepts, later_of, terminal_at}
use Rattle.grammar.proofs.Acceptance.{accepted}
use Rattle.records.specs.Words.{matched_of, spare_of, nesting_of, examined_of, length_of, value_of, word_of, possible}
use Rattle.records.specs.Slots.{slot_of}
use Rattle.packrat.specs.Model.{after_first, after_choice, after_round, rounds_m, met, looked, pair_m, kind_m, node_m}
use Rattle.loaded.specs.Loaded.{word_node}
use Rattle.rows.specs.Rows.{row_word, row_words}
use Rattle.rows.specs.Window.{touches}
use Rattle.rows.specs.Walk.{after, bind, after_look, part_v, joined, rounds_v, entered, pair_v, kind_v, node_v, start_v}
use Rattle.rows.specs.Walk as walk
use Rattle.editing.specs.Text.{text_after, opened}
use Rattle.editing.specs.Table.{table_size, word_after, words_after}
use Rattle.ledger.specs.Ledger.{Call, Reply}
use Rattle.ledger.specs.Demand.{loan}
use Rattle.ledger.specs.Sessions.{SessionSays}
use Rattle.loaded.proofs.LoadedImage.{words_from}
use Rattle.ledger.proofs.Runs.{replies_of}
use Rattle.ledger.proofs.Sessions.{session_says}
use Rattle.marked.specs.Images.{D2, parts, kilo, letters}
use Rattle.marked.specs.Sessions.{text12a, calls1, replies1, calls2, replies2, calls3, replies3, calls4, replies4, calls5, replies5, text12, calls6, replies6}
use Rattle.marked.specs.Sessions.{calls_over, replies_over, calls_refused, replies_refused, calls_listed, replies_listed, text_parts, calls_parts, replies_parts, text_fold, calls_fold, replies_fold, text_letter, calls_letter, replies_letter}
use Rattle.marked.proofs.Images.{d2_accepted, parts_accepted, kilo_accepted, letters_accepted}

-- The calls as functions give these replies.
abbrev ComputedBy : (img : List ℕ) (cap : ℕ) (text : List ℕ) → List Call → List Reply → Type 0
ComputedBy img cap text calls answers =
    replies_of (loan img (opened cap text) (length text) (replicate (table_size (rules img) cap) 0)) calls ≡ answers

abbrev Computed : (text : List ℕ) → List Call → List Reply → Type 0
Computed = ComputedBy D2 4

computed :
    Computed text12a calls1 replies1
    × Computed text12a calls2 replies2
    × Computed text12a calls3 replies3
    × Computed text12a calls4 replies4
    × Computed [] calls5 replies5
    × Computed text12a calls_over replies_over
    × Computed text12a calls_refused replies_refused
unfolding D2 rules nodes start rule_word root node_word fields_at node_of body accepts later_of later_bytes terminal_at matched_of
    spare_of nesting_of examined_of length_of value_of word_of possible slot_of after_first after_choice after_round rounds_m met looked pair_m
    kind_m node_m text_after word_after words_after
computed = (refl, refl, refl, refl, refl, refl, refl)

-- The same for the sessions with listings, which walk.
listed :
    Computed text12 calls6 replies6
    × Computed text12 calls_listed replies_listed
    × ComputedBy parts 3 text_parts calls_parts replies_parts
    × ComputedBy kilo 1 text_fold calls_fold replies_fold
    × ComputedBy letters 3 text_letter calls_letter replies_letter
unfolding D2 parts kilo letters rules nodes start rule_word root node_word fields_at node_of body other_case accepts later_of later_bytes terminal_at matched_of
    spare_of nesting_of examined_of length_of value_of word_of possible slot_of after_first after_choice after_round rounds_m met looked pair_m
    kind_m node_m text_after word_after words_after words_from word_node after bind after_look part_v joined walk.after_first walk.after_choice walk.after_round
    rounds_v entered walk.met pair_v kind_v node_v start_v touches row_word row_words
listed = (refl, refl, refl, refl, refl)

-- D2 is accepted.
says :
    (text : List ℕ) (calls : List Call) (answers : List Reply) → length text ≤ 4 → Computed text calls answers
    → SessionSays D2 text 4 calls answers
says text calls answers fits c = session_says D2 text 4 (accepted d2_accepted) (omega arith) fits calls answers c

pub m1_holds : SessionSays D2 text12a 4 calls1 replies1
m1_holds = says text12a calls1 replies1 (omega arith) computed.0

pub m2_holds : SessionSays D2 text12a 4 calls2 replies2
m2_holds = says text12a calls2 replies2 (omega arith) computed.1

pub m3_holds : SessionSays D2 text12a 4 calls3 replies3
m3_holds = says text12a calls3 replies3 (omega arith) computed.2

pub m4_holds : SessionSays D2 text12a 4 calls4 replies4
m4_holds = says text12a calls4 replies4 (omega arith) computed.3

pub m5_holds : SessionSays D2 [] 4 calls5 replies5
m5_holds = says [] calls5 replies5 (omega arith) computed.4

pub over_holds : SessionSays D2 text12a 4 calls_over replies_over
over_holds = says text12a calls_over replies_over (omega arith) computed.5

pub refused_holds : SessionSays D2 text12a 4 calls_refused replies_refused
refused_holds = says text12a calls_refused replies_refused (omega arith) computed.6

pub m6_holds : SessionSays D2 text12 4 calls6 replies6
m6_holds = says text12 calls6 replies6 (omega arith) listed.0

pub listed_holds : SessionSays D2 text12 4 calls_listed replies_listed
listed_holds = says text12 calls_listed replies_listed (omega arith) listed.1

pub parts_holds : SessionSays parts text_parts 3 calls_parts replies_parts
parts_holds = session_says parts text_parts 3 (accepted parts_accepted) (omega arith) (omega arith) calls_parts replies_parts listed.2

pub fold_holds : SessionSays kilo text_fold 1 calls_fold replies_fold
fold_holds = session_says kilo text_fold 1 (accepted kilo_accepted) (omega arith) (omega arith) calls_fold replies_fold listed.3

pub letter_holds : SessionSays letters text_letter 3 calls_letter replies_letter
letter_holds = session_says letters text_letter 3 (accepted letters_accepted) (omega arith) (omega arith) calls_letter replies_letter listed.4
