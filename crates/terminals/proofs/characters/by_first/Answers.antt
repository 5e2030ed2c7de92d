use Prim.Native.Nat.{ℕ}
use Rattle.grammar.specs.Characters.{Octets, later_bytes}
use Rattle.grammar.specs.Terminal.{continued}
use Rattle.grammar.proofs.Characters.{below_C2, from_C2, from_E0, from_E1, from_ED, from_EE, from_F0, from_F1, from_F4, past_F4}
use Rattle.records.specs.Words.{word_of}
use native.Mathlib.Omega.{arith}
use mathlib.Core.Path.{◌≡◌, sym, ap, ◌∙◌}
use mathlib.Core.List.{List}
use Rattle.terminals.proofs.CharacterWords.{one_byte}
use Rattle.terminals.proofs.characters.by_first.Goals as goal

-- A word of these later bytes is the word by the first byte, which has them.
has-later :
    (first : ℕ) {r : ℕ} {later : List Octets} (text : List ℕ) (at : ℕ)
    → later_bytes first ≡ later
    → r ≡ word_of (continued later text at 1)
    → r ≡ word_of (continued (later_bytes first) text at 1)
has-later first text at e w = w ∙ sym (ap (λ (later : List Octets). word_of (continued later text at 1)) e)

pub returns-in-224 : goal.returns-in-224
returns-in-224 c =
    let a = c.args in
    has-later a.first a.text.now a.at (from_E0 a.first (omega arith) (omega arith)) c.from_first.ensures

pub returns-in-237 : goal.returns-in-237
returns-in-237 c =
    let a = c.args in
    has-later a.first a.text.now a.at (from_ED a.first (omega arith) (omega arith)) c.from_first-in-237.ensures

pub returns-in-240 : goal.returns-in-240
returns-in-240 c =
    let a = c.args in
    has-later a.first a.text.now a.at (from_F0 a.first (omega arith) (omega arith)) c.from_first-in-240.ensures

pub returns-in-244 : goal.returns-in-244
returns-in-244 c =
    let a = c.args in
    has-later a.first a.text.now a.at (from_F4 a.first (omega arith) (omega arith)) c.from_first-in-244.ensures

pub returns-in-0-to-193 : goal.returns-in-0-to-193
returns-in-0-to-193 c =
    let a = c.args in
    has-later a.first a.text.now a.at (below_C2 a.first (omega arith)) (one_byte a.text.now a.at)

pub returns-in-194-to-223 : goal.returns-in-194-to-223
returns-in-194-to-223 c =
    let a = c.args in
    has-later a.first a.text.now a.at (from_C2 a.first (omega arith) (omega arith)) c.from_first-in-194-to-223.ensures

pub returns-in-225-to-236 : goal.returns-in-225-to-236
returns-in-225-to-236 c =
    let a = c.args in
    has-later a.first a.text.now a.at
    (from_E1 a.first (omega arith) (omega arith))
    c.from_first-in-225-to-236.ensures

pub returns-in-238-to-239 : goal.returns-in-238-to-239
returns-in-238-to-239 c =
    let a = c.args in
    has-later a.first a.text.now a.at
    (from_EE a.first (omega arith) (omega arith))
    c.from_first-in-238-to-239.ensures

pub returns-in-241-to-243 : goal.returns-in-241-to-243
returns-in-241-to-243 c =
    let a = c.args in
    has-later a.first a.text.now a.at
    (from_F1 a.first (omega arith) (omega arith))
    c.from_first-in-241-to-243.ensures

pub returns-in_default : goal.returns-in_default
returns-in_default c =
    let a = c.args in
    has-later a.first a.text.now a.at (past_F4 a.first (omega arith)) (one_byte a.text.now a.at)
