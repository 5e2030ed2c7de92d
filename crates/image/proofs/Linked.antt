-- A linked word: its fields, and that it stands for the node. Assumes nothing.
use Prim.Native.Nat.{ℕ, ◌+◌, ◌*◌, ◌/◌, ◌<◌}
use native.Mathlib.Omega.{arith}
use mathlib.Core.Path.{◌≡◌, refl, sym, ap, ◌∙◌}
use mathlib.Core.Bool.{Bool, true, false}
use mathlib.Core.List.{List}
use lib.Dec.{eqb}
use borrow.Author.Tests.{eqb-true, eqb-false, eq-eqb, ne_eqb}
use Rattle.grammar.specs.declared.node.NodeFields.{NodeFields}
use Rattle.grammar.specs.declared.node.Node.TheVariants.{Call}
use Rattle.grammar.specs.Image.{node_word, fields_of, fields_at, kind, field_a, root, node_of, node}
use Rattle.grammar.proofs.Nodes.{is_call}
use Rattle.image.specs.Linked.{linked_if, linked_from, linked_word, Linked}
use Rattle.image.proofs.SameFields.{same_record}

pub root_small : (img : List ℕ) (r : ℕ) → root img r < 4096
unfolding root
root_small img r = omega arith

-- The word of a node that is no call, and of one that is.
module _ (img : List ℕ) (word : ℕ) where
  pub own_word : ((fields_of word).kind ≡ 7 → ⊥) → word ≡ linked_from img word
  own_word other = ap (λ (b : Bool). linked_if b word (root img (fields_of word).a)) (sym (ne_eqb (fields_of word).kind 7 other))

  pub call_word : (fields_of word).kind ≡ 7 → word / 4096 * 4096 + root img (fields_of word).a ≡ linked_from img word
  call_word seven = ap (λ (b : Bool). linked_if b word (root img (fields_of word).a)) (sym (eq-eqb (fields_of word).kind 7 seven))

module _ (img : List ℕ) (n : ℕ) where
  pub linked : Linked img n (fields_of (linked_word img n))
  unfolding fields_at
  linked = go (eqb (kind img n) 7) refl
    where
      go : (b : Bool) → eqb (kind img n) 7 ≡ b → Linked img n (fields_of (linked_if b (node_word img n) (root img (field_a img n))))
      go false e =
          let other = eqb-false (kind img n) 7 e in
          record { same_kind = refl; same_zero = refl; same_a = refl; same_b = λ h. refl; root_for_b = λ h. absurd (other h) }
      go true e =
          let seven = eqb-true (kind img n) 7 e in
          let small = root_small img (field_a img n) in
          record {
            same_kind = omega arith;
            same_zero = omega arith;
            same_a = omega arith;
            same_b = λ other. absurd (other seven);
            root_for_b = λ h. omega arith;
          }

  pub same_node : (f : NodeFields) → Linked img n f → node_of f ≡ node img n
  same_node f l = go (eqb (kind img n) 7) refl
    where
      go : (b : Bool) → eqb (kind img n) 7 ≡ b → node_of f ≡ node img n
      go false e =
          ap node_of
          (same_record {f = f} {g = fields_at img n}
          (record { its_kind = l.same_kind; its_zero = l.same_zero; its_a = l.same_a; its_b = l.same_b (eqb-false (kind img n) 7 e) }))
      go true e =
          let seven = eqb-true (kind img n) 7 e in
          is_call f (l.same_kind ∙ seven) ∙ ap Call l.same_a ∙ sym (is_call (fields_at img n) seven)
