-- Records with the same fields are equal, and the fields of a node's word are the node's. Assumes nothing.
use Prim.Native.Nat.{ℕ}
use mathlib.Core.Path.{◌≡◌}
use mathlib.Core.List.{List}
use Rattle.grammar.specs.declared.node.NodeFields.{NodeFields}
use Rattle.grammar.specs.Image.{node_word, fields_of, fields_at}
use Rattle.image.specs.Fields.{SameFields}

pub same_record : {f g : NodeFields} → SameFields f g → f ≡ g
same_record s = λ i. record { kind = s.its_kind i; zero = s.its_zero i; a = s.its_a i; b = s.its_b i }

pub fields_at_lem :
    (img : List ℕ) (n : ℕ) {word : ℕ} {f : NodeFields}
    → word ≡ node_word img n
    → SameFields f (fields_of word)
    → SameFields f (fields_at img n)
unfolding fields_at
fields_at_lem img n e s = record { its_kind = cc; its_zero = cc; its_a = cc; its_b = cc }
