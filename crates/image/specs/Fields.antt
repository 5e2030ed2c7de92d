-- What the readers of an image's words give: each field has the value that the crate `grammar` gives it.
use Rattle.std.specs.Prelude.{ℕ, ◌≡◌, List}
use Rattle.grammar.specs.Image.{edition, rules, nodes, start, rule_zero, root}
use Rattle.grammar.specs.declared.node.NodeFields.{NodeFields}
use Rattle.image.specs.declared.Header.{Header}
use Rattle.image.specs.declared.Rule.{Rule}

pub record HeaderFields (img : List ℕ) (h : Header) : Type 0 where
  pub its_edition : h.edition ≡ edition img
  pub its_rules : h.rules ≡ rules img
  pub its_nodes : h.nodes ≡ nodes img
  pub its_start : h.start ≡ start img

pub record RuleFields (img : List ℕ) (r : ℕ) (w : Rule) : Type 0 where
  pub its_zero : w.zero ≡ rule_zero img r
  pub its_root : w.root ≡ root img r

-- The fields of a node's word, one by one. Two records with the same fields are equal (proofs/SameFields).
pub record SameFields (f g : NodeFields) : Type 0 where
  pub its_kind : f.kind ≡ g.kind
  pub its_zero : f.zero ≡ g.zero
  pub its_a : f.a ≡ g.a
  pub its_b : f.b ≡ g.b
