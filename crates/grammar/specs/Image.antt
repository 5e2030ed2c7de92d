-- The grammar image: which bits of the bytes are which field, and which node a node's word stands for.
-- A byte string is a list of numbers; a byte past its end reads as 0. The questions on an image ask for its length before they
-- look at a field that could lie past the end.
use Rattle.std.specs.Prelude.{ℕ, ◌+◌, ◌*◌, ◌/◌, ◌%◌, ◌^◌, cond, List, [], ◌∷◌, get_or, eqb}
use Rattle.grammar.specs.declared.node.NodeFields.{NodeFields}
use Rattle.grammar.specs.declared.node.Node.{Node}
use Rattle.grammar.specs.declared.node.Node.TheVariants.{Empty, Text, Sequence, Choice, Star, NotPredicate, Call, Unlawful}
use Rattle.grammar.specs.declared.node.Terminal.{Terminal}
use Rattle.grammar.specs.declared.node.Terminal.TheVariants.{Any, Range, Folded}

-- The byte at a place of a byte string.
abbrev pub byte_at : List ℕ → ℕ → ℕ
byte_at bytes i = get_or bytes i 0

-- "Fields are packed most significant bit first": words of two and of four bytes, the first byte highest,
abbrev pub word16 : List ℕ → ℕ → ℕ
word16 bytes i = byte_at bytes i * 2 ^ 8 + byte_at bytes (i + 1)

abbrev pub word32 : List ℕ → ℕ → ℕ
word32 bytes i = word16 bytes i * 2 ^ 16 + word16 bytes (i + 2)

-- and the field of `width` bits that has `low` bits of the word below it.
abbrev pub field : (word low width : ℕ) → ℕ
field word low width = word / 2 ^ low % 2 ^ width

-- "Header, 32 bits: edition 4 (always 1), rules 8, nodes 12, start rule 8."
unfoldable pub edition : List ℕ → ℕ
edition img = field (word32 img 0) 28 4

unfoldable pub rules : List ℕ → ℕ
rules img = field (word32 img 0) 20 8

unfoldable pub nodes : List ℕ → ℕ
nodes img = field (word32 img 0) 8 12

unfoldable pub start : List ℕ → ℕ
start img = field (word32 img 0) 0 8

-- "One 16-bit word per rule: zero 4, root node 12."
unfoldable pub rule_word : List ℕ → ℕ → ℕ
rule_word img r = word16 img (4 + 2 * r)

unfoldable pub rule_zero : List ℕ → ℕ → ℕ
rule_zero img r = field (rule_word img r) 12 4

unfoldable pub root : List ℕ → ℕ → ℕ
root img r = field (rule_word img r) 0 12

-- "One 32-bit word per node: kind 4, zero 4, A 12, B 12."
unfoldable pub node_word : List ℕ → ℕ → ℕ
node_word img n = word32 img (4 + 2 * rules img + 4 * n)

abbrev pub fields_of : (word : ℕ) → NodeFields
fields_of word = record { kind = field word 28 4; zero = field word 24 4; a = field word 12 12; b = field word 0 12 }

-- The fields of a node's word,
unfoldable pub fields_at : List ℕ → ℕ → NodeFields
fields_at img n = fields_of (node_word img n)

-- and each of them.
abbrev pub kind : List ℕ → ℕ → ℕ
kind img n = (fields_at img n).kind

abbrev pub node_zero : List ℕ → ℕ → ℕ
node_zero img n = (fields_at img n).zero

abbrev pub field_a : List ℕ → ℕ → ℕ
field_a img n = (fields_at img n).a

abbrev pub field_b : List ℕ → ℕ → ℕ
field_b img n = (fields_at img n).b

-- "The lowest of a node's four zero bits becomes a fold bit for kind 2." (02, R-1, which coins the term)
abbrev pub fold_bit : (zero_bits : ℕ) → ℕ
fold_bit bits = bits % 2

-- Kind 2: "byte from A to B inclusive", folded where the fold bit is set.
abbrev pub range_by : (zero_bits from to : ℕ) → Terminal
range_by bits from to = cond (eqb (fold_bit bits) 1) (Folded from to) (Range from to)

abbrev pub byte_range : NodeFields → Terminal
byte_range f = range_by f.zero f.a f.b

-- "Kinds: 0 empty; 1 any byte; 2 byte from A to B inclusive; 3 A then B; 4 A, else B; 5 A zero or more times; 6 not A; 7 call of
-- rule A."
abbrev pub by_kind : NodeFields → List Node
by_kind f =
    Empty
    ∷ Text Any
    ∷ Text (byte_range f)
    ∷ Sequence f.a f.b
    ∷ Choice f.a f.b
    ∷ Star f.a
    ∷ NotPredicate f.a
    ∷ Call f.a
    ∷ []

unfoldable pub node_of : NodeFields → Node
node_of f = get_or (by_kind f) f.kind Unlawful

abbrev pub node : List ℕ → ℕ → Node
node img n = node_of (fields_at img n)

-- "the rule's body, its root node"
unfoldable pub body : List ℕ → ℕ → Node
body img r = node img (root img r)

-- "A and B are child nodes in 3 to 6."
abbrev pub children : Node → List ℕ
children Empty = []
children (Text t) = []
children (Sequence a b) = a ∷ b ∷ []
children (Choice a b) = a ∷ b ∷ []
children (Star a) = a ∷ []
children (NotPredicate a) = a ∷ []
children (Call r) = []
children Unlawful = []
