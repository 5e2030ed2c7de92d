-- The number of each image of the table. Questions 1 to 5 are tests that compute; the well-formed set is gone through node by node.
-- Assumes nothing.
use Prim.Native.Nat.{ℕ, zero, suc, ◌<◌}
use native.Mathlib.Omega.{arith}
use mathlib.Core.Path.{◌≡◌, refl, sym, ap, ◌∙◌}
use mathlib.Core.Bool.{Bool, true, false, true≢false}
use mathlib.Core.List.{List, []}
use mathlib.Core.Logic.{inl, inr}
use lib.Dec.{eqb, lit<, lit≤}
use borrow.Author.Tests.{eqb-true}
use Rattle.grammar.specs.Image.{edition, rules, nodes, start, rule_zero, root, rule_word, node_word, fields_at}
use Rattle.grammar.specs.declared.node.Terminal.{Terminal}
use Rattle.grammar.specs.Image.{node, node_of, body}
use Rattle.grammar.specs.declared.node.Node.{Node}
use Rattle.grammar.specs.declared.node.Node.TheVariants.{Empty, Text, Sequence, Choice, Star, NotPredicate, Call, Unlawful}
use Rattle.grammar.specs.Outcomes.{Has, matches_empty, call_body, then_00, else_0, else_second, not_0, terminal_f}
use Rattle.grammar.specs.WellFormed.{WellFormed, wf_empty, wf_terminal, wf_call, wf_then, wf_else, wf_star, wf_not}
use Rattle.grammar.specs.Questions.{Question4, Question6, Question7, Lawful, Checked}
use Rattle.grammar.specs.Questions.{roots, children_below, occurrences}
use Rattle.grammar.specs.Tests.{every, header_test, rule_test, node_test, words_test, once_test}
use Rattle.grammar.proofs.Tests.{header_asked, words_asked, lawful_image}
use Rattle.grammar.proofs.Acceptance.{checked, refused_6, refused_7}
use Rattle.marked.specs.Images.{D2, M7, M8, M9, parts, second_edition, start_too_high, byte_too_many, own_child, orphan, kilo, folded_any, second_bit, dot, letters}

-- The three tests that say that an image is lawful.
abbrev Passes : List ℕ → Type 0
Passes img = (header_test img ≡ true) × (words_test img ≡ true) × (every (nodes img) (once_test img) ≡ true)

passes : Passes D2 × Passes M7 × Passes M8 × Passes M9 × Passes parts × Passes kilo × Passes dot × Passes letters
unfolding D2 M7 M8 M9 parts kilo dot letters every header_test rule_test node_test words_test once_test edition rules nodes start rule_zero root rule_word fields_at node_word node_of roots children_below occurrences
passes = ((refl, refl, refl), (refl, refl, refl), (refl, refl, refl), (refl, refl, refl), (refl, refl, refl), (refl, refl, refl), (refl, refl, refl), (refl, refl, refl))

lawful : {img : List ℕ} → Passes img → Lawful img
lawful {img} p = lawful_image img p.0 p.1 p.2

pub terminal_lacks_0 : {img : List ℕ} {t : Terminal} → Has img (Text t) matches_empty → ⊥
terminal_lacks_0 = elim [ ]

-- D2: every node is well formed.
d2_formed : Question7 D2
unfolding D2 rules nodes root rule_word fields_at node_word node_of body
d2_formed = record { every_node = go }
  where
    digit-consumes : Has D2 (Call 1) matches_empty → ⊥
    digit-consumes (call_body h) = terminal_lacks_0 h

    go : (n : ℕ) → n < 5 → WellFormed D2 (node D2 n)
    go zero l = wf_then (wf_call wf_terminal) (λ h. wf_star (wf_call wf_terminal) digit-consumes)
    go (suc zero) l = wf_call wf_terminal
    go (suc (suc zero)) l = wf_star (wf_call wf_terminal) digit-consumes
    go (suc (suc (suc zero))) l = wf_call wf_terminal
    go (suc (suc (suc (suc zero)))) l = wf_terminal
    go (suc (suc (suc (suc (suc n))))) l = absurd (omega arith)

pub d2_accepted : Checked D2 0
d2_accepted = checked (record { lawful = lawful passes.0; well_formed = d2_formed })

-- parts: every node is well formed, rule 1 because each of its choices consumes.
parts_formed : Question7 parts
unfolding parts rules nodes root rule_word fields_at node_word node_of body
parts_formed = record { every_node = go }
  where
    digit : WellFormed parts (Call 2)
    digit = wf_call wf_terminal

    digit-consumes : Has parts (Call 2) matches_empty → ⊥
    digit-consumes (call_body h) = terminal_lacks_0 h

    marked-digit : WellFormed parts (Sequence 4 5)
    marked-digit = wf_then digit (λ h. wf_terminal)

    second-digit : WellFormed parts (Sequence 7 10)
    second-digit = wf_then (wf_not (wf_not digit)) (λ h. digit)

    line : WellFormed parts (Choice 3 6)
    line = wf_else marked-digit second-digit

    -- Both choices consume a digit.
    first-consumes : Has parts (Sequence 4 5) matches_empty → ⊥
    first-consumes (then_00 h k) = digit-consumes h

    second-consumes : Has parts (Sequence 7 10) matches_empty → ⊥
    second-consumes (then_00 h k) = digit-consumes k

    not-empty : Has parts (Choice 3 6) matches_empty → ⊥
    not-empty (else_0 h) = first-consumes h
    not-empty (else_second f h) = second-consumes h

    line-consumes : Has parts (Call 1) matches_empty → ⊥
    line-consumes (call_body h) = not-empty h

    go : (n : ℕ) → n < 12 → WellFormed parts (node parts n)
    go zero l = wf_star (wf_call line) line-consumes
    go (suc zero) l = wf_call line
    go (suc (suc zero)) l = line
    go (suc (suc (suc zero))) l = marked-digit
    go (suc (suc (suc (suc zero)))) l = digit
    go (suc (suc (suc (suc (suc zero))))) l = wf_terminal
    go (suc (suc (suc (suc (suc (suc zero)))))) l = second-digit
    go (suc (suc (suc (suc (suc (suc (suc zero))))))) l = wf_not (wf_not digit)
    go (suc (suc (suc (suc (suc (suc (suc (suc zero)))))))) l = wf_not digit
    go (suc (suc (suc (suc (suc (suc (suc (suc (suc zero))))))))) l = digit
    go (suc (suc (suc (suc (suc (suc (suc (suc (suc (suc zero)))))))))) l = digit
    go (suc (suc (suc (suc (suc (suc (suc (suc (suc (suc (suc zero))))))))))) l = wf_terminal
    go (suc (suc (suc (suc (suc (suc (suc (suc (suc (suc (suc (suc n)))))))))))) l = absurd (omega arith)

pub parts_accepted : Checked parts 0
parts_accepted = checked (record { lawful = lawful passes.4; well_formed = parts_formed })

-- The nodes that M7 and M8 come back to without consuming: a node whose first child is node 1, and a call of rule 0.
on_ring : Node → Bool
on_ring Empty = false
on_ring (Text t) = false
on_ring (Sequence a b) = eqb a 1
on_ring (Choice a b) = false
on_ring (Star a) = false
on_ring (NotPredicate a) = eqb a 1
on_ring (Call r) = eqb r 0
on_ring Unlawful = false

-- Where node 1 and the body of rule 0 are such nodes, none of them is well formed: each asks for another one first.
ring :
    (img : List ℕ)
    → on_ring (node img 1) ≡ true
    → on_ring (body img 0) ≡ true
    → {n : Node}
    → WellFormed img n
    → on_ring n ≡ true
    → ⊥
unfolding on_ring
ring img p q wf_empty e = true≢false (sym e)
ring img p q wf_terminal e = true≢false (sym e)
ring img p q (wf_call {r} w) e = ring img p q w (ap (λ (k : ℕ). on_ring (body img k)) (eqb-true r 0 e) ∙ q)
ring img p q (wf_then {a} w then) e = ring img p q w (ap (λ (k : ℕ). on_ring (node img k)) (eqb-true a 1 e) ∙ p)
ring img p q (wf_else w v) e = true≢false (sym e)
ring img p q (wf_star w lacks) e = true≢false (sym e)
ring img p q (wf_not {a} w) e = ring img p q w (ap (λ (k : ℕ). on_ring (node img k)) (eqb-true a 1 e) ∙ p)

-- M7: no star.
m7_stars : Question6 M7
unfolding M7 rules nodes fields_at node_word node_of
m7_stars = record { stars = go }
  where
    go : (n a : ℕ) → n < 3 → node M7 n ≡ Star a → Has M7 (node M7 a) matches_empty → ⊥
    go zero a l e h = let z : ◌≡◌ {A = ℕ} 0 1 = cc in omega arith
    go (suc zero) a l e h = let z : ◌≡◌ {A = ℕ} 0 1 = cc in omega arith
    go (suc (suc zero)) a l e h = let z : ◌≡◌ {A = ℕ} 0 1 = cc in omega arith
    go (suc (suc (suc n))) a l e h = absurd (omega arith)

pub m7_refused : Checked M7 7
unfolding M7 on_ring rules nodes root rule_word fields_at node_word node_of body
m7_refused = refused_7 (lawful passes.1) m7_stars (λ q. ring M7 refl refl (q.every_node 0 (lit< tt)) refl)

-- M8: no star.
m8_stars : Question6 M8
unfolding M8 rules nodes fields_at node_word node_of
m8_stars = record { stars = go }
  where
    go : (n a : ℕ) → n < 2 → node M8 n ≡ Star a → Has M8 (node M8 a) matches_empty → ⊥
    go zero a l e h = let z : ◌≡◌ {A = ℕ} 0 1 = cc in omega arith
    go (suc zero) a l e h = let z : ◌≡◌ {A = ℕ} 0 1 = cc in omega arith
    go (suc (suc n)) a l e h = absurd (omega arith)

pub m8_refused : Checked M8 7
unfolding M8 on_ring rules nodes root rule_word fields_at node_word node_of body
m8_refused = refused_7 (lawful passes.2) m8_stars (λ q. ring M8 refl refl (q.every_node 0 (lit< tt)) refl)

-- M9: the star's body matches nothing long where there is no byte.
pub m9_refused : Checked M9 6
unfolding M9 rules nodes fields_at node_word node_of
m9_refused = refused_6 (lawful passes.3) (λ q. q.stars 0 1 (lit< tt) refl (not_0 terminal_f))

-- The witnesses.
pub empty_refused : Checked [] 1
empty_refused = record { first = inl ((λ q. let h = q.four_bytes in omega arith), refl) }

pub edition_refused : Checked second_edition 1
unfolding second_edition edition
edition_refused = record { first = inl ((λ q. let h = q.edition_1 in omega arith), refl) }

pub start_refused : Checked start_too_high 2
unfolding start_too_high edition rules start
start_refused =
    record {
      first =
          inr (record { four_bytes = lit≤ tt; edition_1 = refl }, inl ((λ q. let h = q.start_rule in omega arith), refl));
    }

pub size_refused : Checked byte_too_many 3
unfolding byte_too_many edition rules nodes start
size_refused =
    record {
      first =
          inr (
            record { four_bytes = lit≤ tt; edition_1 = refl },
            inr (
              record { some_rules = lit≤ tt; few_rules = lit≤ tt; some_nodes = lit≤ tt; few_nodes = lit≤ tt; start_rule = lit< tt },
              inl ((λ q. let h = q.exact in omega arith), refl),
            ),
          );
    }

-- An image that passes 1 to 3 and has a word that is not lawful.
refused_4 : (img : List ℕ) → header_test img ≡ true → (Question4 img → ⊥) → Checked img 4
refused_4 img e wrong = let q = header_asked img e in record { first = inr (q.0, inr (q.1, inr (q.2, inl (wrong, refl)))) }

pub child_refused : Checked own_child 4
unfolding own_child header_test edition rules nodes start fields_at node_word
child_refused = refused_4 own_child refl (λ w. let h = (w.node_words 0 (lit< tt)).child_A (lit≤ tt) (lit≤ tt) in omega arith)

pub orphan_refused : Checked orphan 5
unfolding orphan every header_test rule_test node_test words_test once_test edition rules nodes start rule_zero root rule_word fields_at node_word node_of roots children_below occurrences
orphan_refused =
    let q = header_asked orphan refl in
    record {
      first =
          inr (
            q.0,
            inr (q.1, inr (q.2, inr (words_asked orphan refl, inl ((λ w. let h = w.once 1 (lit< tt) in omega arith), refl)))),
          );
    }

-- R-1: the fold bit in kind 2, in kind 1, and the bit above it.
kilo_formed : Question7 kilo
unfolding kilo rules nodes fields_at node_word node_of
kilo_formed = record { every_node = go }
  where
    go : (n : ℕ) → n < 1 → WellFormed kilo (node kilo n)
    go zero l = wf_terminal
    go (suc n) l = absurd (omega arith)

pub kilo_accepted : Checked kilo 0
kilo_accepted = checked (record { lawful = lawful passes.5; well_formed = kilo_formed })

-- dot and letters.
dot_formed : Question7 dot
unfolding dot rules nodes root rule_word fields_at node_word node_of body
dot_formed = record { every_node = go }
  where
    go : (n : ℕ) → n < 1 → WellFormed dot (node dot n)
    go zero l = wf_terminal
    go (suc n) l = absurd (omega arith)

pub dot_accepted : Checked dot 0
dot_accepted = checked (record { lawful = lawful passes.6; well_formed = dot_formed })

letters_formed : Question7 letters
unfolding letters rules nodes root rule_word fields_at node_word node_of body
letters_formed = record { every_node = go }
  where
    letter-consumes : Has letters (Call 1) matches_empty → ⊥
    letter-consumes (call_body h) = terminal_lacks_0 h

    go : (n : ℕ) → n < 3 → WellFormed letters (node letters n)
    go zero l = wf_star (wf_call wf_terminal) letter-consumes
    go (suc zero) l = wf_call wf_terminal
    go (suc (suc zero)) l = wf_terminal
    go (suc (suc (suc n))) l = absurd (omega arith)

pub letters_accepted : Checked letters 0
letters_accepted = checked (record { lawful = lawful passes.7; well_formed = letters_formed })

pub folded_any_refused : Checked folded_any 4
unfolding folded_any header_test edition rules nodes start fields_at node_word
folded_any_refused = refused_4 folded_any refl (λ w. let h = (w.node_words 0 (lit< tt)).zero_bits (λ e. omega arith) in omega arith)

pub second_bit_refused : Checked second_bit 4
unfolding second_bit header_test edition rules nodes start fields_at node_word
second_bit_refused = refused_4 second_bit refl (λ w. let h = (w.node_words 0 (lit< tt)).zero_bits_2 refl in omega arith)
