-- The table of marked cases. A line says what a call answers; `Says` gives each line its meaning by the definition that the call's
-- promise cites. The theorem is `marked_hold` in proofs/Marked.antt.
use Rattle.std.specs.Prelude.{Ok, Err}
use Rattle.grammar.specs.declared.refusal.Refusal.TheVariants.{Nesting}
use Rattle.std.specs.Prelude.{ℕ, List, [], ◌∷◌}
use Rattle.grammar.specs.Questions.{Checked}
use Rattle.reading.specs.declared.plain.Outcome.{Outcome}
use Rattle.reading.specs.Plain.{PlainAnswer}
use Rattle.reading.specs.Plain.{PlainRead}
use Rattle.ledger.specs.Ledger.{Call, Reply}
use Rattle.ledger.specs.Sessions.{SessionSays}
use Rattle.marked.specs.Sessions.{text12a, calls1, replies1, calls2, replies2, calls3, replies3, calls4, replies4, calls5, replies5, text12}
use Rattle.marked.specs.Sessions.{calls6, replies6}
use Rattle.marked.specs.Sessions.{calls_over, replies_over, calls_refused, replies_refused, calls_listed, replies_listed, calls_deep}
use Rattle.marked.specs.Sessions.{replies_deep, text_parts, calls_parts, replies_parts, text_fold, calls_fold, replies_fold, text_letter}
use Rattle.marked.specs.Sessions.{calls_letter, replies_letter}
use Rattle.marked.specs.Images.{D2, M7, M8, M9, M10, brackets, parts, second_edition, start_too_high, byte_too_many, own_child, orphan}
use Rattle.marked.specs.Images.{kilo, folded_any, second_bit, dot, letters}

pub data Line : Type 0 where
  -- the image check gives this image this number
  image_number : (img : List ℕ) (number : ℕ) → Line
  -- the plain reading answers this for this text
  plain_reading : (img text : List ℕ) (answer : PlainAnswer) → Line
  -- a session: the text opened in a buffer of cap bytes, the calls, and the reply of each
  session : (img text : List ℕ) (cap : ℕ) (calls : List Call) (answers : List Reply) → Line

abbrev pub Says : Line → Type 0
Says (image_number img number) = Checked img number
Says (plain_reading img text answer) = PlainRead img text answer
Says (session img text cap calls answers) = SessionSays img text cap calls answers

-- Every line of a table holds.
abbrev pub Hold : List Line → Type 0
Hold [] = Unit {0}
Hold (line ∷ lines) = Says line × Hold lines

-- "D2 is: [..]." M1 to M6 are in Sessions.antt. "M7 S = S then a byte: 7. M8 S = not S: 7. M9 star over not a byte: 6.
-- M10 S = ("(" then S) else empty: 1,364 brackets have nesting 4,095; 1,365 give 14."
abbrev pub marked : List Line
marked =
    image_number D2 0
    ∷ session D2 text12a 4 calls1 replies1
    ∷ session D2 text12a 4 calls2 replies2
    ∷ session D2 text12a 4 calls3 replies3
    ∷ session D2 text12a 4 calls4 replies4
    ∷ session D2 [] 4 calls5 replies5
    ∷ session D2 text12 4 calls6 replies6
    ∷ image_number M7 7
    ∷ image_number M8 7
    ∷ image_number M9 6
    ∷ image_number M10 0
    ∷ plain_reading M10 (brackets 1364)
    (Ok (record { outcome = Outcome.Whole; length = 1364; examined = 1365; nesting = 4095 }))
    ∷ plain_reading M10 (brackets 1365) (Err Nesting)
    ∷ []

-- An image for each of the numbers 1 to 7 that no marked case has, and sessions that the marked cases leave out; the last seven are R-1's
-- and R-5's.
abbrev pub witnesses : List Line
witnesses =
    image_number [] 1
    ∷ image_number second_edition 1
    ∷ image_number start_too_high 2
    ∷ image_number byte_too_many 3
    ∷ image_number own_child 4
    ∷ image_number orphan 5
    ∷ session D2 text12a 4 calls_over replies_over
    ∷ session D2 text12a 4 calls_refused replies_refused
    ∷ session D2 text12 4 calls_listed replies_listed
    ∷ image_number parts 0
    ∷ session parts text_parts 3 calls_parts replies_parts
    ∷ session M10 (brackets 1365) 1365 calls_deep replies_deep
    ∷ image_number kilo 0
    ∷ image_number folded_any 4
    ∷ image_number second_bit 4
    ∷ session kilo text_fold 1 calls_fold replies_fold
    ∷ image_number dot 0
    ∷ image_number letters 0
    ∷ session letters text_letter 3 calls_letter replies_letter
    ∷ []

-- Characters (02, R-5): what a plain reading of `dot` gives.
abbrev pub any_reads : (text : List ℕ) → Outcome → (length examined : ℕ) → Line
any_reads text outcome length examined =
    plain_reading dot text (Ok (record { outcome = outcome; length = length; examined = examined; nesting = 1 }))

-- The first and the last character of each line of RFC 3629's table.
abbrev pub complete : List Line
complete =
    any_reads (0x00 ∷ []) Outcome.Whole 1 1
    ∷ any_reads (0x7F ∷ []) Outcome.Whole 1 1
    ∷ any_reads (0xC2 ∷ 0x80 ∷ []) Outcome.Whole 2 2
    ∷ any_reads (0xDF ∷ 0xBF ∷ []) Outcome.Whole 2 2
    ∷ any_reads (0xE0 ∷ 0xA0 ∷ 0x80 ∷ []) Outcome.Whole 3 3
    ∷ any_reads (0xE0 ∷ 0xBF ∷ 0xBF ∷ []) Outcome.Whole 3 3
    ∷ any_reads (0xE1 ∷ 0x80 ∷ 0x80 ∷ []) Outcome.Whole 3 3
    ∷ any_reads (0xEC ∷ 0xBF ∷ 0xBF ∷ []) Outcome.Whole 3 3
    ∷ any_reads (0xED ∷ 0x80 ∷ 0x80 ∷ []) Outcome.Whole 3 3
    ∷ any_reads (0xED ∷ 0x9F ∷ 0xBF ∷ []) Outcome.Whole 3 3
    ∷ any_reads (0xEE ∷ 0x80 ∷ 0x80 ∷ []) Outcome.Whole 3 3
    ∷ any_reads (0xEF ∷ 0xBF ∷ 0xBF ∷ []) Outcome.Whole 3 3
    ∷ any_reads (0xF0 ∷ 0x90 ∷ 0x80 ∷ 0x80 ∷ []) Outcome.Whole 4 4
    ∷ any_reads (0xF0 ∷ 0xBF ∷ 0xBF ∷ 0xBF ∷ []) Outcome.Whole 4 4
    ∷ any_reads (0xF1 ∷ 0x80 ∷ 0x80 ∷ 0x80 ∷ []) Outcome.Whole 4 4
    ∷ any_reads (0xF3 ∷ 0xBF ∷ 0xBF ∷ 0xBF ∷ []) Outcome.Whole 4 4
    ∷ any_reads (0xF4 ∷ 0x80 ∷ 0x80 ∷ 0x80 ∷ []) Outcome.Whole 4 4
    ∷ any_reads (0xF4 ∷ 0x8F ∷ 0xBF ∷ 0xBF ∷ []) Outcome.Whole 4 4
    ∷ []

-- "A byte that begins no lawful character matches alone, with length 1": a character that the end or another byte breaks off, a second byte
-- that its first one forbids, bytes that begin none; and the end.
abbrev pub broken : List Line
broken =
    any_reads (0xE2 ∷ 0x82 ∷ []) Outcome.Part 1 3
    ∷ any_reads (0xC3 ∷ 0x61 ∷ []) Outcome.Part 1 2
    ∷ any_reads (0xE0 ∷ 0x80 ∷ []) Outcome.Part 1 2
    ∷ any_reads (0xED ∷ 0xA0 ∷ []) Outcome.Part 1 2
    ∷ any_reads (0xF4 ∷ 0x90 ∷ []) Outcome.Part 1 2
    ∷ any_reads (0x80 ∷ []) Outcome.Whole 1 1
    ∷ any_reads (0xC0 ∷ []) Outcome.Whole 1 1
    ∷ any_reads (0xF5 ∷ []) Outcome.Whole 1 1
    ∷ any_reads [] Outcome.Nothing 0 1
    ∷ any_reads (0xC3 ∷ []) Outcome.Whole 1 2
    ∷ any_reads (0xE2 ∷ 0x82 ∷ 0x61 ∷ []) Outcome.Part 1 3
    ∷ any_reads (0xF0 ∷ 0x90 ∷ 0x80 ∷ []) Outcome.Part 1 4
    ∷ any_reads (0xF0 ∷ 0x90 ∷ 0x80 ∷ 0x61 ∷ []) Outcome.Part 1 4
    ∷ any_reads (0xC0 ∷ 0x80 ∷ []) Outcome.Part 1 1
    ∷ any_reads (0xE0 ∷ 0x80 ∷ 0x80 ∷ []) Outcome.Part 1 2
    ∷ any_reads (0xE0 ∷ 0x9F ∷ 0xBF ∷ []) Outcome.Part 1 2
    ∷ any_reads (0xF0 ∷ 0x8F ∷ 0xBF ∷ 0xBF ∷ []) Outcome.Part 1 2
    ∷ any_reads (0xED ∷ 0xA0 ∷ 0x80 ∷ []) Outcome.Part 1 2
    ∷ any_reads (0xF4 ∷ 0x90 ∷ 0x80 ∷ 0x80 ∷ []) Outcome.Part 1 2
    ∷ any_reads (0xC1 ∷ 0xBF ∷ []) Outcome.Part 1 1
    ∷ any_reads (0xF5 ∷ 0x80 ∷ 0x80 ∷ 0x80 ∷ []) Outcome.Part 1 1
    ∷ any_reads (0xFF ∷ []) Outcome.Whole 1 1
    ∷ any_reads (0xC3 ∷ 0xC3 ∷ 0xA9 ∷ []) Outcome.Part 1 2
    ∷ []
