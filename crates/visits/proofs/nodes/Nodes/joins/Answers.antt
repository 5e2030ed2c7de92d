use mathlib.Core.Path.{◌≡◌, refl, sym, ◌∙◌}
use mathlib.Core.Logic.{inl, inr}
use Prim.Native.Nat.{ℕ}
use mathlib.Core.List.{List}
use Rattle.grammar.specs.declared.node.Node.{Node}
use Rattle.grammar.specs.declared.node.NodeFields.{NodeFields}
use Rattle.grammar.specs.Image.{node, node_of, fields_at}
use Rattle.grammar.proofs.Nodes.{kind_of_call, rule_of_call}
use Rattle.image.specs.Linked.{Linked}
use Rattle.image.proofs.Linked.{same_node}
use Rattle.lawful.proofs.InRange.{two_below, one_below}
use Rattle.rounds.specs.Visits.{formed_from}
use Rattle.visits.proofs.nodes.Nodes.joins.Goals as goal

-- The node that a match found is the image's.
found : (img : List ℕ) (n : ℕ) {f : NodeFields} {m k : Node} → Linked img n f → m ≡ node_of f → m ≡ k → node img n ≡ k
found img n {f} w e is = sym (same_node img n f w) ∙ sym e ∙ is

pub bounds-formed-a : goal.bounds-formed-a
bounds-formed-a c =
    (two_below c.args.self.now.image.now c.args.self.now.lawful.counts c.args.self.now.lawful.words c.args.n c.requires
    (inl (found c.args.self.now.image.now c.args.n c.fields-fields.ensures c.from.ensures c.in-Sequence.is))).0

pub bounds-known-a : goal.bounds-known-a
bounds-known-a c =
    (two_below c.args.self.now.image.now c.args.self.now.lawful.counts c.args.self.now.lawful.words c.args.n c.requires
    (inl (found c.args.self.now.image.now c.args.n c.fields-fields.ensures c.from.ensures c.in-Sequence.is))).0

pub bounds-formed-b : goal.bounds-formed-b
bounds-formed-b c =
    (two_below c.args.self.now.image.now c.args.self.now.lawful.counts c.args.self.now.lawful.words c.args.n c.requires
    (inl (found c.args.self.now.image.now c.args.n c.fields-fields.ensures c.from.ensures c.in-Sequence.is))).1

pub bounds-formed-a-in-Choice : goal.bounds-formed-a-in-Choice
bounds-formed-a-in-Choice c =
    (two_below c.args.self.now.image.now c.args.self.now.lawful.counts c.args.self.now.lawful.words c.args.n c.requires
    (inr (found c.args.self.now.image.now c.args.n c.fields-fields.ensures c.from.ensures c.in-Choice.is))).0

pub bounds-formed-b-in-Choice : goal.bounds-formed-b-in-Choice
bounds-formed-b-in-Choice c =
    (two_below c.args.self.now.image.now c.args.self.now.lawful.counts c.args.self.now.lawful.words c.args.n c.requires
    (inr (found c.args.self.now.image.now c.args.n c.fields-fields.ensures c.from.ensures c.in-Choice.is))).1

pub bounds-formed-a-in-Star : goal.bounds-formed-a-in-Star
bounds-formed-a-in-Star c =
    one_below c.args.self.now.image.now c.args.self.now.lawful.counts c.args.self.now.lawful.words c.args.n c.requires
    (inl (found c.args.self.now.image.now c.args.n c.fields-fields.ensures c.from.ensures c.in-Star.is))

pub bounds-known-a-in-Star : goal.bounds-known-a-in-Star
bounds-known-a-in-Star c =
    one_below c.args.self.now.image.now c.args.self.now.lawful.counts c.args.self.now.lawful.words c.args.n c.requires
    (inl (found c.args.self.now.image.now c.args.n c.fields-fields.ensures c.from.ensures c.in-Star.is))

pub bounds-formed-a-in-NotPredicate : goal.bounds-formed-a-in-NotPredicate
bounds-formed-a-in-NotPredicate c =
    one_below c.args.self.now.image.now c.args.self.now.lawful.counts c.args.self.now.lawful.words c.args.n c.requires
    (inr (found c.args.self.now.image.now c.args.n c.fields-fields.ensures c.from.ensures c.in-NotPredicate.is))

pub returns-in-Empty : goal.returns-in-Empty
unfolding formed_from
returns-in-Empty c = elim c.in-Empty.is [ inl e ↦ rw (found c.args.self.now.image.now c.args.n c.fields-fields.ensures c.from.ensures e) refl | inr t ↦ rw (found c.args.self.now.image.now c.args.n c.fields-fields.ensures c.from.ensures t.1) refl ]

pub returns-in-Sequence : goal.returns-in-Sequence
unfolding formed_from
returns-in-Sequence c =
    rw (found c.args.self.now.image.now c.args.n c.fields-fields.ensures c.from.ensures c.in-Sequence.is, c.has_empty.ensures) refl

pub returns-in-Choice : goal.returns-in-Choice
unfolding formed_from
returns-in-Choice c = rw (found c.args.self.now.image.now c.args.n c.fields-fields.ensures c.from.ensures c.in-Choice.is) refl

pub returns-in-Star : goal.returns-in-Star
unfolding formed_from
returns-in-Star c =
    rw (found c.args.self.now.image.now c.args.n c.fields-fields.ensures c.from.ensures c.in-Star.is, c.has_empty-in-Star.ensures) refl

pub returns-in-NotPredicate : goal.returns-in-NotPredicate
unfolding formed_from
returns-in-NotPredicate c = rw (found c.args.self.now.image.now c.args.n c.fields-fields.ensures c.from.ensures c.in-NotPredicate.is) refl

pub returns-in-Unlawful : goal.returns-in-Unlawful
unfolding formed_from
returns-in-Unlawful c = rw (found c.args.self.now.image.now c.args.n c.fields-fields.ensures c.from.ensures c.in-Unlawful.is) refl

pub returns-in-Call : goal.returns-in-Call
unfolding formed_from
returns-in-Call c =
    let img = c.args.self.now.image.now in
    let calls = found c.args.self.now.image.now c.args.n c.fields-fields.ensures c.from.ensures c.in-Call.is in
    let fields = fields_at img c.args.n in
    let its_root = c.fields-fields.ensures.root_for_b (kind_of_call fields calls) in
    rw (its_root, calls, rule_of_call fields calls) refl
