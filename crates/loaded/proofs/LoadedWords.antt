-- The words of a loaded grammar: linked words, and 0 past the last node. Assumes nothing.
use Prim.Native.Nat.{ℕ, ◌+◌, ◌*◌, ◌≤◌, ◌<◌}
use native.Mathlib.Omega.{arith}
use mathlib.Core.Path.{◌≡◌, refl, sym, ap, ◌∙◌}
use mathlib.Core.Bool.{Bool, true, false}
use mathlib.Core.List.{List}
use lib.ListN.{get_or}
use lib.Dec.{ltb}
use borrow.Author.Tests.{ltb-true, ltb-false}
use Rattle.grammar.specs.Image.{node_word, fields_of, fields_at, kind, rules, nodes, start, root}
use Rattle.grammar.specs.Questions.{Question3}
use Rattle.grammar.proofs.Nodes.{is_empty, kind_of_call, rule_of_call}
use Rattle.image.specs.Linked.{linked_word, LinkedWords}
use Rattle.image.proofs.PastTheEnd.{past_word32}
use Rattle.image.proofs.Linked.{linked, same_node}
use Rattle.loaded.specs.declared.form.LoadedGrammar.{LoadedGrammar}
use Rattle.loaded.specs.Loaded.{word_node, LoadedWord, Loaded}

module _ (img : List ℕ) (n : ℕ) where
  pub linked_loaded : LoadedWord img n (linked_word img n)
  unfolding word_node
  linked_loaded =
      let l = linked img n in
      record {
        node_is = same_node img n (fields_of (linked_word img n)) l;
        root_is = λ r e. l.root_for_b (kind_of_call (fields_at img n) e) ∙ ap (root img) (rule_of_call (fields_at img n) e);
      }

  -- A word below 2^28 stands for the empty node, and so does what lies past the last node.
  pub past_word : Question3 img → nodes img ≤ n → {w : ℕ} → w < 268435456 → LoadedWord img n w
  unfolding word_node fields_at node_word
  past_word q h {w} small =
      let past : node_word img n ≡ 0 = past_word32 img (4 + 2 * rules img + 4 * n) (omega (arith, q.exact)) in
      let k : kind img n ≡ 0 = omega (arith, past) in
      record {
        node_is = is_empty (fields_of w) (omega arith) ∙ sym (is_empty (fields_at img n) k);
        root_is = λ r c. absurd (let d = kind_of_call (fields_at img n) c in omega arith);
      }

-- The linked words with the number of rules and the start rule are the image's grammar.
pub loaded :
    (img : List ℕ) (g : LoadedGrammar)
    → Question3 img
    → g.rules ≡ rules img
    → g.start.rule ≡ start img
    → g.start.root ≡ root img g.start.rule
    → LinkedWords img g.words
    → Loaded img g
loaded img g q3 e s r h =
    record { rules_are = e; start_is = s; root_is = r ∙ ap (root img) s; words_are = λ k. go k (ltb k (nodes img)) refl }
  where
    go : (k : ℕ) (c : Bool) → ltb k (nodes img) ≡ c → LoadedWord img k (get_or g.words k 0)
    go k true f = rw (h.word_of k (ltb-true k (nodes img) f)) (linked_loaded img k)
    go k false f =
        let past = ltb-false k (nodes img) f in
        rw (h.past k past) (past_word img k q3 past (omega arith))
