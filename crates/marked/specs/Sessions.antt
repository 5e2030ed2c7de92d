-- The marked cases that are sessions, and witnesses: the text opened, the calls, and every reply along them.
use Rattle.std.specs.Prelude.{Ok, Err}
use Rattle.grammar.specs.declared.refusal.Refusal.TheVariants.{EditRange, EditRoom, Nesting, Pair, Rows}
use Rattle.std.specs.Prelude.{ℕ, List, [], ◌∷◌}
use Rattle.reading.specs.declared.plain.Outcome.{Outcome}
use Rattle.ledger.specs.Ledger.{Call, edit, reading, look_up, listing, Reply, edits, reads, finds, lists}

-- A reading's reply, an edit's, and a look-up's.
abbrev pub answers : Outcome → (length examined nesting evaluations : ℕ) → Reply
answers outcome length examined nesting evaluations =
    reads
    (Ok
    (record { outcome = outcome; length = length; examined = examined; nesting = nesting; evaluations = evaluations }))

abbrev pub stand : (length standing : ℕ) → Reply
stand length standing = edits (Ok (record { length = length; standing = standing }))

abbrev pub word : ℕ → Reply
word w = finds (Ok w)

-- The reply of a listing that gave so many rows, with these words.
abbrev pub listed : Outcome → (length examined nesting evaluations rows : ℕ) → List ℕ → Reply
listed outcome length examined nesting evaluations rows words =
    lists
    (Ok
    (record {
      reading = record { outcome = outcome; length = length; examined = examined; nesting = nesting; evaluations = evaluations };
      rows = rows;
    }))
    words

-- "12a"
abbrev pub text12a : List ℕ
text12a = 0x31 ∷ 0x32 ∷ 0x61 ∷ []

-- "M1 "12a": part, length 2, examined 3, nesting 4, evaluations 4. Word of (0,0): 0xC000000800030002; of (1,2): 0x8000000200010000."
abbrev pub calls1 : List Call
calls1 = reading ∷ look_up 0 0 ∷ look_up 1 2 ∷ []

abbrev pub replies1 : List Reply
replies1 = answers Outcome.Part 2 3 4 4 ∷ word 0xC000000800030002 ∷ word 0x8000000200010000 ∷ []

-- "M2 M1, then (2, 3, empty): 2 pairs stand; reading: whole, length 2, examined 3, evaluations 2."
abbrev pub calls2 : List Call
calls2 = reading ∷ edit 2 3 [] ∷ reading ∷ []

abbrev pub replies2 : List Reply
replies2 = answers Outcome.Part 2 3 4 4 ∷ stand 2 2 ∷ answers Outcome.Whole 2 3 4 2 ∷ []

-- "M3 M2, then (0, 0, "7"): 4 stand; reading: length 3, examined 4, evaluations 2."
abbrev pub calls3 : List Call
calls3 = reading ∷ edit 2 3 [] ∷ reading ∷ edit 0 0 (0x37 ∷ []) ∷ reading ∷ []

abbrev pub replies3 : List Reply
replies3 =
    answers Outcome.Part 2 3 4 4 ∷ stand 2 2 ∷ answers Outcome.Whole 2 3 4 2 ∷ stand 3 4 ∷ answers Outcome.Whole 3 4 4 2 ∷ []

-- "M4 M1, then (2, 2, empty): 3 stand; reading: evaluations 1."
abbrev pub calls4 : List Call
calls4 = reading ∷ edit 2 2 [] ∷ reading ∷ []

abbrev pub replies4 : List Reply
replies4 = answers Outcome.Part 2 3 4 4 ∷ stand 3 3 ∷ answers Outcome.Part 2 3 4 1 ∷ []

-- "M5 Empty text: none, examined 1, evaluations 2."
abbrev pub calls5 : List Call
calls5 = reading ∷ []

abbrev pub replies5 : List Reply
replies5 = answers Outcome.Nothing 0 1 3 2 ∷ []

-- "M6 "12": 3 rows; 2 slots give 15." The rows are the start rule's and one for each digit.
abbrev pub text12 : List ℕ
text12 = 0x31 ∷ 0x32 ∷ []

abbrev pub rows12 : List ℕ
rows12 = 0x0000000000000002 ∷ 0x0100000100000001 ∷ 0x0100000100010001 ∷ []

abbrev pub calls6 : List Call
calls6 = listing 3 ∷ listing 2 ∷ []

abbrev pub replies6 : List Reply
replies6 = listed Outcome.Whole 2 3 4 4 3 rows12 ∷ lists (Err Rows) [] ∷ []

-- Witnesses. "M1, then (2, 3, "3"), then says part where whole is right"; and a refusal with each of 9, 10 and 11, after which the session
-- goes on as before.
abbrev pub calls_over : List Call
calls_over = reading ∷ edit 2 3 (0x33 ∷ []) ∷ reading ∷ []

abbrev pub replies_over : List Reply
replies_over = answers Outcome.Part 2 3 4 4 ∷ stand 3 2 ∷ answers Outcome.Whole 3 4 4 3 ∷ []

abbrev pub calls_refused : List Call
calls_refused = reading ∷ edit 2 1 [] ∷ edit 3 3 (0x31 ∷ 0x32 ∷ []) ∷ look_up 2 0 ∷ look_up 0 4 ∷ look_up 0 3 ∷ reading ∷ []

abbrev pub replies_refused : List Reply
replies_refused =
    answers Outcome.Part 2 3 4 4
    ∷ edits (Err EditRange)
    ∷ edits (Err EditRoom)
    ∷ finds (Err Pair)
    ∷ finds (Err Pair)
    ∷ word 0
    ∷ answers Outcome.Part 2 3 4 0
    ∷ []

-- A listing refused with 15 is a reading: the one after it evaluates nothing. More slots than rows are no hindrance, and no match gives 0
-- rows.
abbrev pub calls_listed : List Call
calls_listed = listing 2 ∷ reading ∷ listing 9 ∷ edit 0 2 [] ∷ listing 0 ∷ []

abbrev pub replies_listed : List Reply
replies_listed =
    lists (Err Rows) []
    ∷ answers Outcome.Whole 2 3 4 0
    ∷ listed Outcome.Whole 2 3 4 0 3 rows12
    ∷ stand 0 1
    ∷ listed Outcome.Nothing 0 1 3 1 0 []
    ∷ []

-- A start pair whose nesting is above 4,096: 14 for a reading and for a listing.
abbrev pub calls_deep : List Call
calls_deep = reading ∷ listing 1 ∷ []

abbrev pub replies_deep : List Reply
replies_deep = reads (Err Nesting) ∷ lists (Err Nesting) [] ∷ []

-- By `parts`, "1!2" has rows two calls deep. Those of the choice that failed at 2 after a call had matched, those under a not, and those of
-- the round that failed at the end are none of them.
abbrev pub text_parts : List ℕ
text_parts = 0x31 ∷ 0x21 ∷ 0x32 ∷ []

abbrev pub calls_parts : List Call
calls_parts = listing 5 ∷ listing 4 ∷ []

abbrev pub replies_parts : List Reply
replies_parts =
    listed Outcome.Whole 3 4 8 7 5
    (0x0000000000000003 ∷ 0x0100000100000002 ∷ 0x0200000200000001 ∷ 0x0100000100020001 ∷ 0x0200000200020001 ∷ [])
    ∷ lists (Err Rows) []
    ∷ []

-- "Some loggers write KWH and some kwh." (02, R-1) K, then k, then L.
abbrev pub text_fold : List ℕ
text_fold = 0x4B ∷ []

abbrev pub calls_fold : List Call
calls_fold = reading ∷ edit 0 1 (0x6B ∷ []) ∷ listing 1 ∷ edit 0 1 (0x4C ∷ []) ∷ reading ∷ []

abbrev pub replies_fold : List Reply
replies_fold =
    answers Outcome.Whole 1 1 1 1
    ∷ stand 1 0
    ∷ listed Outcome.Whole 1 1 1 1 1 (0x0000000000000001 ∷ [])
    ∷ stand 1 0
    ∷ answers Outcome.Nothing 0 1 1 1
    ∷ []

-- "Site names arrive in UTF-8" (02, R-5). A letter of two bytes and its rows; an edit inside it, after which its first byte stands alone;
-- one that completes it again; and one that leaves its first byte at the end. The letter's record says that two bytes were looked at, also
-- where it has one.
abbrev pub text_letter : List ℕ
text_letter = 0xC3 ∷ 0xA9 ∷ []

abbrev pub calls_letter : List Call
calls_letter =
    listing 2
    ∷ look_up 1 0
    ∷ edit 1 2 (0x61 ∷ [])
    ∷ reading
    ∷ look_up 1 0
    ∷ edit 1 1 (0xBC ∷ [])
    ∷ reading
    ∷ edit 1 3 []
    ∷ reading
    ∷ look_up 1 0
    ∷ []

abbrev pub replies_letter : List Reply
replies_letter =
    listed Outcome.Whole 2 3 3 3 2 (0x0000000000000002 ∷ 0x0100000100000002 ∷ [])
    ∷ word 0xC000000200020002
    ∷ stand 2 1
    ∷ answers Outcome.Whole 2 3 3 3
    ∷ word 0xC000000200020001
    ∷ stand 3 2
    ∷ answers Outcome.Whole 3 4 3 2
    ∷ stand 1 1
    ∷ answers Outcome.Whole 1 2 3 2
    ∷ word 0xC000000200020001
    ∷ []
