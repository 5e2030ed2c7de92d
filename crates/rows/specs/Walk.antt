-- The walk that lists rows, as a function over a loaded grammar and any table of records: what it answers and the words of the rows
-- that it gives, in order. It is not the definition of the rows, which is `rows_of`; proofs/ show how the two agree.
-- A walk has a window: it lists the rows that the window touches and enters no other call. In the window (n + 1, 0), which touches
-- nothing, it only tells whether a node matches, and how long, from the records.
use Rattle.grammar.specs.declared.refusal.Refusal.{Refusal}
use Rattle.grammar.specs.declared.refusal.Refusal.TheVariants.{Records, Nesting, Rows}
use Rattle.std.specs.Prelude.{ℕ, zero, suc, ◌+◌, ◌%◌, Bool, true, false, not, ◌&&◌, List, [], ◌∷◌, ◌++◌, length, get_or, leb, eqb}
use Rattle.grammar.specs.declared.node.Node.{Node}
use Rattle.grammar.specs.declared.node.Node.TheVariants.{Empty, Text, Sequence, Choice, Star, NotPredicate, Call, Unlawful}
use Rattle.grammar.specs.Terminal.{terminal_at}
use Rattle.records.specs.Slots.{slot_of}
use Rattle.records.specs.Words.{is_held, possible, matched_of, length_of}
use Rattle.loaded.specs.declared.form.LoadedGrammar.{LoadedGrammar}
use Rattle.loaded.specs.Loaded.{word_b, word_node}
use Rattle.rows.specs.Rows.{row_word}
use Rattle.rows.specs.Window.{touches}

-- Whether it matched, how long, and how many rows stand then; or the refusal by the question that failed.
pub data Walked : Type 0 where
  walked : (matched : Bool) (length count : ℕ) → Walked
  stopped : Refusal → Walked

-- An answer, and the words of the rows on the way, in order.
pub data Trail : Type 0 where
  trail : Walked → List ℕ → Trail

-- After words that were given before.
unfoldable pub after : List ℕ → Trail → Trail
after e (trail a f) = trail a (e ++ f)

-- The next step where the step before was answered.
unfoldable pub bind : Trail → (Bool → ℕ → ℕ → Trail) → Trail
bind (trail (walked m l c) e) next = after e (next m l c)
bind (trail (stopped k) e) next = trail (stopped k) e

-- What walks the node with a number at a position: window, rows around it, rows before it.
abbrev pub Walker : Type 0
Walker = (i at lo hi around count : ℕ) → Trail

-- A node that may fail is looked at first, and then walked where it matched and the window touches it.
unfoldable pub after_look : (matched touched : Bool) → (len : ℕ) → (ℕ → Trail) → (count : ℕ) → Trail
after_look false touched len go c = trail (walked false 0 c) []
after_look true false len go c = trail (walked true len c) []
after_look true true len go c = go c

unfoldable pub part_v : (n : ℕ) → Walker → Walker
part_v n ev a at lo hi k c = bind (ev a at (n + 1) 0 k c) (λ m l c. after_look m (touches lo hi at l) l (ev a at lo hi k) c)

unfoldable pub joined : (matched : Bool) (before len count : ℕ) → Trail
joined true before len c = trail (walked true (before + len) c) []
joined false before len c = trail (walked false 0 c) []

unfoldable pub after_first : (matched : Bool) → (before : ℕ) → (ℕ → Trail) → (count : ℕ) → Trail
after_first false before go c = trail (walked false 0 c) []
after_first true before go c = bind (go c) (λ m l c. joined m before l c)

unfoldable pub after_choice : (matched : Bool) → (len : ℕ) → (ℕ → Trail) → (count : ℕ) → Trail
after_choice true len go c = trail (walked true len c) []
after_choice false len go c = go c

-- After a round: whether it matched, whether its length is 0, the length of the rounds before it, the rounds after it.
unfoldable pub after_round : (matched still : Bool) → (before : ℕ) → (ℕ → Trail) → (count : ℕ) → Trail
after_round false still before more c = trail (walked true before c) []
after_round true true before more c = trail (stopped Records) []
after_round true false before more c = more c

-- The rounds of a star that starts at `at`, from the round at `at + before` on, at most as many as the first number.
unfoldable pub rounds_v : ℕ → (n : ℕ) → Walker → (a at lo hi around before count : ℕ) → Trail
rounds_v zero n ev a at lo hi k before c = trail (stopped Records) []
rounds_v (suc f) n ev a at lo hi k before c =
    bind (part_v n ev a (at + before) lo hi k c)
    (λ m l c. after_round m (eqb l 0) before (rounds_v f n ev a at lo hi k (before + l)) c)

-- A pair that matched, with its row and the walk of its body: whether the window touches it, whether there is no slot for its row.
unfoldable pub entered : (touched full : Bool) → (len row : ℕ) → (ℕ → Trail) → (count : ℕ) → Trail
entered false full len row go c = trail (walked true len c) []
entered true true len row go c = trail (stopped Rows) []
entered true false len row go c = after (row ∷ []) (bind (go (c + 1)) (λ m l c. trail (walked true len c) []))

-- A pair's word: whether it is held and possible, whether it says that the pair matched.
unfoldable pub met : (known matched : Bool) → (count : ℕ) → Trail → Trail
met false matched c go = trail (stopped Records) []
met true false c go = trail (walked false 0 c) []
met true true c go = go

-- A pair of a grammar of so many rules, whose rule has that root, where `room` rows fit. A rule that is too wide for its field of
-- the row loses its upper bits; a grammar of at most 64 rules has none.
unfoldable pub pair_v : (rules root room : ℕ) → (text table : List ℕ) → Walker → Walker
pair_v rules root room text table ev r at lo hi k c =
    let word = get_or table (slot_of rules r at) 0 in
    met (is_held word && possible word at (length text)) (matched_of word) c
    (entered (touches lo hi at (length_of word)) (leb room c) (length_of word)
    (row_word (record { rule = r % 256; depth = k; start = at; length = length_of word }))
    (ev root at lo hi (k + 1)) c)

-- A node, by its kind.
unfoldable pub kind_v : (text : List ℕ) → (nodes called : Walker) → Node → (at lo hi around count : ℕ) → Trail
kind_v text nodes called Empty at lo hi k c = trail (walked true 0 c) []
kind_v text nodes called (Text m) at lo hi k c =
    trail (walked (terminal_at m text at).matched (terminal_at m text at).length c) []
kind_v text nodes called (Sequence a b) at lo hi k c =
    bind (nodes a at lo hi k c) (λ m l c. after_first m l (nodes b (at + l) lo hi k) c)
kind_v text nodes called (Choice a b) at lo hi k c =
    bind (part_v (length text) nodes a at lo hi k c) (λ m l c. after_choice m l (nodes b at lo hi k) c)
kind_v text nodes called (Star a) at lo hi k c = rounds_v (suc (length text)) (length text) nodes a at lo hi k 0 c
kind_v text nodes called (NotPredicate a) at lo hi k c =
    bind (nodes a at (length text + 1) 0 k c) (λ m l c. trail (walked (not m) 0 c) [])
kind_v text nodes called (Call r) at lo hi k c = called r at lo hi k c
kind_v text nodes called Unlawful at lo hi k c = trail (stopped Records) []

-- A node, with an allowance of nesting.
unfoldable pub node_v : (room : ℕ) → (g : LoadedGrammar) (text table : List ℕ) → (left : ℕ) → Walker
node_v room g text table zero i at lo hi k c = trail (stopped Nesting) []
node_v room g text table (suc left) i at lo hi k c =
    kind_v text (node_v room g text table left)
    (pair_v g.rules (word_b (get_or g.words i 0)) room text table (node_v room g text table left))
    (word_node (get_or g.words i 0)) at lo hi k c

-- A pair whose rule has that root, and a node by what it is: what is walked inside has the allowance `left`.
abbrev pub rule_v : (room : ℕ) → (g : LoadedGrammar) (text table : List ℕ) → (left root : ℕ) → Walker
rule_v room g text table left root = pair_v g.rules root room text table (node_v room g text table left)

abbrev pub inside_v : (room : ℕ) → (g : LoadedGrammar) (text table : List ℕ) → (left root : ℕ) → Node → (at lo hi around count : ℕ) → Trail
inside_v room g text table left root = kind_v text (node_v room g text table left) (rule_v room g text table left root)

-- The start pair of a loaded grammar, with the whole allowance.
unfoldable pub start_v : (room : ℕ) → (g : LoadedGrammar) (text table : List ℕ) → (lo hi : ℕ) → Trail
start_v room g text table lo hi = rule_v room g text table 4096 g.start.root g.start.rule 0 lo hi 0 0
