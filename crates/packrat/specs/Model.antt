-- The evaluator as a function: what it answers and stores for an allowance of nesting, over any table of records.
-- It is not the definition of an evaluation, which is `Evaluates` of the crate grammar; proofs/ show how the two agree.
use Rattle.std.specs.Prelude.{ℕ, zero, suc, ◌+◌, ◌%◌, ◌^◌, Bool, true, false, List, length, get_or, set, leb, eqb}
use Rattle.grammar.specs.declared.Evaluation.{Evaluation}
use Rattle.grammar.specs.declared.refusal.Refusal.{Refusal}
use Rattle.grammar.specs.declared.refusal.Refusal.TheVariants.{Words, Records, Nesting}
use Rattle.grammar.specs.Image.{rules, root, node}
use Rattle.grammar.specs.declared.node.Node.{Node}
use Rattle.grammar.specs.declared.node.Node.TheVariants.{Empty, Text, Sequence, Choice, Star, NotPredicate, Call, Unlawful}
use Rattle.grammar.specs.Terminal.{terminal_at}
use Rattle.grammar.specs.Evaluates.{empty_here, first_failed, in_sequence, taken_over, second_choice, last_round, round_then, negated}
use Rattle.records.specs.Words.{is_held, possible, nesting_of, value_of, word_of}
use Rattle.records.specs.Slots.{slot_of}

-- An evaluation, or the refusal by the question that failed.
pub data Answer : Type 0 where
  answered : Evaluation → Answer
  refused : Refusal → Answer

-- An answer, with the table and the count of evaluated pairs that stand then.
pub data Out : Type 0 where
  out : Answer → List ℕ → ℕ → Out

-- What evaluates the node or the rule with a number at a position, over a table and a count.
abbrev pub Evaluator : Type 0
Evaluator = ℕ → ℕ → List ℕ → ℕ → Out

-- The next step where the step before was answered.
abbrev pub bind : Out → (Evaluation → List ℕ → ℕ → Out) → Out
bind (out (answered x) t c) next = next x t c
bind (out (refused k) t c) next = out (refused k) t c

-- The same where the next step only makes another evaluation of it.
abbrev pub made : (Evaluation → Evaluation) → Out → Out
made f o = bind o (λ x t c. out (answered (f x)) t c)

unfoldable pub after_first : Bool → Evaluator → (b at : ℕ) → Evaluation → List ℕ → ℕ → Out
after_first true ev b at x t c = made (in_sequence x) (ev b (at + x.length) t c)
after_first false ev b at x t c = out (answered (first_failed x)) t c

unfoldable pub after_choice : Bool → Evaluator → (b at : ℕ) → Evaluation → List ℕ → ℕ → Out
after_choice true ev b at x t c = out (answered (taken_over x)) t c
after_choice false ev b at x t c = made (second_choice x) (ev b at t c)

-- After a round: whether it matched, whether its length is 0, the rounds after it.
unfoldable pub after_round : (matched still : Bool) → (ℕ → List ℕ → ℕ → Out) → (at : ℕ) → Evaluation → List ℕ → ℕ → Out
after_round false still more at x t c = out (answered (last_round x)) t c
after_round true true more at x t c = out (refused Records) t c
after_round true false more at x t c = made (round_then x) (more (at + x.length) t c)

-- The rounds of a star over child a, at most as many as the first number.
unfoldable pub rounds_m : ℕ → Evaluator → (a at : ℕ) → List ℕ → ℕ → Out
rounds_m zero ev a at t c = out (refused Records) t c
rounds_m (suc f) ev a at t c =
    bind (ev a at t c) (λ x u d. after_round x.matched (eqb x.length 0) (rounds_m f ev a) at x u d)

-- A held word: whether it is possible, whether its nesting is allowed.
unfoldable pub met : (possible allowed : Bool) → (word : ℕ) → List ℕ → ℕ → Out
met false allowed word t c = out (refused Records) t c
met true true word t c = out (answered (value_of word)) t c
met true false word t c = out (refused Nesting) t c

-- A pair of a grammar of so many rules, whose rule has that root: whether its word is held.
unfoldable pub looked : Bool → (rules root : ℕ) → (text : List ℕ) → Evaluator → (left rule at : ℕ) → List ℕ → ℕ → Out
looked true rules root text ev left r at t c =
    let word = get_or t (slot_of rules r at) 0 in
    met (possible word at (length text)) (leb (nesting_of word) left) word t c
looked false rules root text ev left r at t c =
    bind (ev root at t c) (λ x u d. out (answered x) (set u (slot_of rules r at) (word_of x)) ((d + 1) % 2 ^ 64))

unfoldable pub pair_m : (rules root : ℕ) → (text : List ℕ) → Evaluator → (left : ℕ) → Evaluator
pair_m rules root text ev left r at t c = looked (is_held (get_or t (slot_of rules r at) 0)) rules root text ev left r at t c

abbrev pub rule_m : (img text : List ℕ) → Evaluator → (left : ℕ) → Evaluator
rule_m img text ev left r = pair_m (rules img) (root img r) text ev left r

-- A node, by what it is: `nodes` evaluates its children, `called` the rules that it calls.
unfoldable pub kind_m : (text : List ℕ) → (nodes called : Evaluator) → Node → (at : ℕ) → List ℕ → ℕ → Out
kind_m text nodes called Empty at t c = out (answered empty_here) t c
kind_m text nodes called (Text m) at t c = out (answered (terminal_at m text at)) t c
kind_m text nodes called (Sequence a b) at t c = bind (nodes a at t c) (λ x u d. after_first x.matched nodes b at x u d)
kind_m text nodes called (Choice a b) at t c = bind (nodes a at t c) (λ x u d. after_choice x.matched nodes b at x u d)
kind_m text nodes called (Star a) at t c = made taken_over (rounds_m (suc (length text)) nodes a at t c)
kind_m text nodes called (NotPredicate a) at t c = made negated (nodes a at t c)
kind_m text nodes called (Call r) at t c = made taken_over (called r at t c)
kind_m text nodes called Unlawful at t c = out (refused Words) t c

-- A node, with an allowance of nesting.
unfoldable pub node_m : (img text : List ℕ) → (left : ℕ) → Evaluator
node_m img text zero i at t c = out (refused Nesting) t c
node_m img text (suc left) i at t c =
    kind_m text (node_m img text left) (rule_m img text (node_m img text left) left) (node img i) at t c
