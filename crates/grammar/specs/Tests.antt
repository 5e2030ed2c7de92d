-- Questions 1 to 5 as tests that compute. What they say is proved in proofs/Tests.antt: a test passes exactly when its question
-- holds.
use Rattle.std.specs.Prelude.{ℕ, zero, suc, ◌+◌, ◌*◌, Bool, true, false, ◌&&◌, not, List, ◌++◌, length, eqb, leb, ltb}
use Rattle.grammar.specs.Image.{edition, rules, nodes, start, rule_zero, root, kind, node_zero, field_a, field_b}
use Rattle.grammar.specs.Questions.{roots, children_below, occurrences}

-- A test that is asked only where another passes.
abbrev pub where_so : Bool → Bool → Bool
where_so true b = b
where_so false b = true

-- A test of every number below n.
unfoldable pub every : ℕ → (ℕ → Bool) → Bool
every zero f = true
every (suc n) f = f n && every n f

module _ (img : List ℕ) where
  -- Questions 1,
  abbrev pub edition_test : Bool
  edition_test = leb 4 (length img) && eqb (edition img) 1

  -- 2,
  abbrev pub counts_test : Bool
  counts_test =
      leb 1 (rules img)
      && (leb (rules img) 64 && (leb 1 (nodes img) && (leb (nodes img) 1024 && ltb (start img) (rules img))))

  -- and 3;
  abbrev pub size_test : Bool
  size_test = eqb (length img) (4 + 2 * rules img + 4 * nodes img)

  -- all three at once.
  unfoldable pub header_test : Bool
  header_test = edition_test && (counts_test && size_test)

  -- Question 4, of a rule, of a node, and of all words.
  unfoldable pub rule_test : ℕ → Bool
  rule_test r = eqb (rule_zero img r) 0 && ltb (root img r) (nodes img)

  unfoldable pub node_test : ℕ → Bool
  node_test n =
      where_so (not (eqb (kind img n) 2)) (eqb (node_zero img n) 0)
      && (where_so (eqb (kind img n) 2) (leb (node_zero img n) 1)
      && (leb (kind img n) 7
      && (where_so (leb (kind img n) 1) (eqb (field_a img n) 0)
      && (where_so (leb (kind img n) 1) (eqb (field_b img n) 0)
      && (where_so (leb 5 (kind img n)) (eqb (field_b img n) 0)
      && (where_so (eqb (kind img n) 2) (leb (field_a img n) (field_b img n) && leb (field_b img n) 255)
      && (where_so (leb 3 (kind img n) && leb (kind img n) 6) (ltb n (field_a img n) && ltb (field_a img n) (nodes img))
      && (where_so (leb 3 (kind img n) && leb (kind img n) 4) (ltb n (field_b img n) && ltb (field_b img n) (nodes img))
      && where_so (eqb (kind img n) 7) (ltb (field_a img n) (rules img))))))))))

  unfoldable pub words_test : Bool
  words_test = every (rules img) rule_test && every (nodes img) node_test

  -- Question 5, of a node.
  unfoldable pub once_test : ℕ → Bool
  once_test n = eqb (occurrences n (roots img (rules img) ++ children_below img (nodes img))) 1
