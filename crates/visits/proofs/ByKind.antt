-- What a node gathers, by its kind.
-- Assumes nothing.
use Prim.Native.Nat.{ℕ, zero, suc, ◌≤◌}
use native.Mathlib.Omega.{arith}
use mathlib.Core.Path.{◌≡◌, refl, sym, ap, ◌∙◌}
use mathlib.Core.List.{List}
use lib.ListN.{get_or}
use Rattle.grammar.specs.declared.node.NodeFields.{NodeFields}
use Rattle.grammar.specs.declared.node.Node.{Node}
use Rattle.grammar.specs.Image.{fields_at, kind, node}
use Rattle.grammar.proofs.Nodes.{is_empty, is_any, is_range, is_sequence, is_choice, is_star, is_not, is_call}
use Rattle.image.specs.Linked.{Linked}
use Rattle.visits.specs.Sets.{set_of_kind}
use Rattle.rounds.specs.Visits.{gathered}

-- What the table gives for a node's kind and for the sets of the nodes that its word names is what the node gathers.
pub gathers_by_kind :
    (img known : List ℕ) {n : ℕ} {f : NodeFields}
    → kind img n ≤ 7
    → Linked img n f
    → set_of_kind f.kind (get_or known f.a 0) (get_or known f.b 0) ≡ gathered img known (node img n)
unfolding gathered set_of_kind
gathers_by_kind img known {n} {f} most w = go (kind img n) refl
  where
    sets : ℕ → ℕ
    sets i = set_of_kind i (get_or known f.a 0) (get_or known f.b 0)

    of :
        {m : Node} (i : ℕ) → kind img n ≡ i → node img n ≡ m → sets i ≡ gathered img known m → sets f.kind ≡ gathered img known (node img n)
    of i e m g = ap sets (w.same_kind ∙ e) ∙ g ∙ sym (ap (gathered img known) m)

    go : (i : ℕ) → kind img n ≡ i → sets f.kind ≡ gathered img known (node img n)
    go zero e = of 0 e (is_empty (fields_at img n) e) refl
    go (suc zero) e = of 1 e (is_any (fields_at img n) e) refl
    go (suc (suc zero)) e = of 2 e (is_range (fields_at img n) e) refl
    go (suc (suc (suc zero))) e = of 3 e (is_sequence (fields_at img n) e) (rw (w.same_a, w.same_b (λ h. omega arith)) refl)
    go (suc (suc (suc (suc zero)))) e = of 4 e (is_choice (fields_at img n) e) (rw (w.same_a, w.same_b (λ h. omega arith)) refl)
    go (suc (suc (suc (suc (suc zero))))) e = of 5 e (is_star (fields_at img n) e) (rw w.same_a refl)
    go (suc (suc (suc (suc (suc (suc zero)))))) e = of 6 e (is_not (fields_at img n) e) (rw w.same_a refl)
    go (suc (suc (suc (suc (suc (suc (suc zero))))))) e = of 7 e (is_call (fields_at img n) e) (rw (w.root_for_b e) refl)
    go (suc (suc (suc (suc (suc (suc (suc (suc i)))))))) e = absurd (omega arith)
