use mathlib.Core.Bool.{Bool, true, false, not, true≢false}
use mathlib.Core.Path.{◌≡◌, refl, sym, ap, ◌∙◌}
use mathlib.Core.Logic.{inl}
use Rattle.grammar.proofs.References.{refers}
use Rattle.grammar.specs.Outcomes.{matches_empty}
use Rattle.lawful.proofs.InRange.{one_below}
use Rattle.rounds.specs.Rounds.{StarConsumes}
use Rattle.std.proofs.Common.{IsTrue}
use Rattle.grammar.specs.Image.{node}
use Rattle.grammar.specs.declared.node.Node.TheVariants.{Star}
use Rattle.checker.proofs.order.Rounds.star_consumes.Goals as goal

pub bounds-known-a : goal.bounds-known-a
bounds-known-a c =
    let all = c.args.self.now.all.now in
    one_below all.image.now all.lawful.counts all.lawful.words c.args.n c.requires.1 (inl (rw c.node.ensures at c.in-Star.is))

-- A star's body lacks outcome 0 exactly where its set does.
pub returns-in-Star : goal.returns-in-Star
returns-in-Star c = (yes, no c.has_empty.result refl)
  where
    is : node c.args.self.now.all.now.image.now c.args.n ≡ Star c.in-Star.a
    is = rw c.node.ensures at c.in-Star.is

    yes : IsTrue (not c.has_empty.result) → StarConsumes c.args.self.now.all.now.image.now c.args.n
    yes t =
        record {
          lacks_0 = λ b e h.
              let child = rw is at (refers c.args.self.now.all.now.image.now c.args.self.now.all.now.lawful.words c.args.n c.requires.1) in
              let same : b ≡ c.in-Star.a = cc (e, is) in
              let has = c.has_empty.ensures ∙ c.requires.0.all c.in-Star.a matches_empty child (rw same at h) in
              true≢false (sym (rw has at t));
        }

    no : (b : Bool) → c.has_empty.result ≡ b → StarConsumes c.args.self.now.all.now.image.now c.args.n → IsTrue (not c.has_empty.result)
    no false e s = ap not e
    no true e s = absurd (s.lacks_0 c.in-Star.a is (c.requires.0.only c.in-Star.a matches_empty (sym c.has_empty.ensures ∙ e)))
