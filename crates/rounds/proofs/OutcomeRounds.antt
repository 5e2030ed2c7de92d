-- The outcome rounds: a visit adds only what is right, and makes the sets heavier if it changes them; so the rounds stop, and what
-- they leave, over any order that visits every node, are the least sets.
--     outcome_sets_least     the sets that the rounds leave are the least sets
--     outcome_rounds_stop    "The rounds stop at the first that adds nothing"
--     outcome_sets_left      sets that some rounds leave and to which the next adds nothing are those
-- Assumes nothing.
use Prim.Native.Nat.{ℕ, ◌*◌, ◌≤◌, ◌<◌}
use native.Mathlib.Omega.{arith}
use mathlib.Core.Path.{◌≡◌, refl, sym, ap, ◌∙◌, subst}
use mathlib.Core.Bool.{Bool, true, false, ◌||◌, or-true, true≢false}
use mathlib.Core.Logic.{◌⊎◌, inl, inr, ⊎_elim}
use mathlib.Core.List.{List}
use lib.ListN.{length, get_or, set, replicate, length-set, length-replicate}
use lib.Seq.{set-get_or, get_or-set_same}
use lib.Dec.{eqb}
use borrow.Author.Tests.{eqb-true, eqb-false}
use Rattle.grammar.proofs.Bools.{either}
use Rattle.grammar.proofs.Writes.{after_write, all_the_same}
use Rattle.grammar.specs.Image.{nodes, node}
use Rattle.grammar.specs.Outcomes.{Outcome, matches_empty, consumes, fails, Has}
use Rattle.grammar.specs.Questions.{Question2, Question4}
use Rattle.grammar.proofs.References.{refers}
use Rattle.rounds.specs.Sets.{bit, pack, union}
use Rattle.rounds.specs.Order.{VisitsAll}
use Rattle.rounds.specs.Visits.{gathered, gather_at}
use Rattle.rounds.specs.Rounds.{round, rounds, StopAfter, no_outcomes, outcome_sets, Sound, RoundMade, Outcomes}
use Rattle.rounds.proofs.Bits.{bit-union, union_small, size, size_most, union_larger}
use Rattle.rounds.proofs.Gathering.{Closed, gathered_only, gathered_all}
use Rattle.rounds.proofs.Weights.{weight_by, weight_set, weight_most}
use Rattle.rounds.proofs.Stops.{Growing, round_good, round_grows, round_still, rounds_good, still_at_most, same_left, stop}
use Rattle.rounds.proofs.Turns.{Reached}

-- The number of outcomes in all sets.
abbrev pub weight : List ℕ → ℕ
weight = weight_by size

none_in_0 : (o : Outcome) → bit o 0 ≡ true → ⊥
unfolding bit
none_in_0 matches_empty h = true≢false (sym h)
none_in_0 consumes h = true≢false (sym h)
none_in_0 fails h = true≢false (sym h)

pub sound_start : (img : List ℕ) (m : ℕ) → m ≡ 1024 → Sound img (replicate m 0)
sound_start img m e =
    record {
      as_long = length-replicate m 0 ∙ e;
      small = λ n. rw (all_the_same {A = ℕ} m n 0) (omega arith);
      only = λ n o h. absurd (none_in_0 o (rw (all_the_same {A = ℕ} m n 0) at h));
      beyond = λ n l. all_the_same {A = ℕ} m n 0;
    }

module _ (img known : List ℕ) (sound : Sound img known) (n v : ℕ) (in-nodes : n < nodes img) (l : n < 1024)
    (gained : v ≡ union (get_or known n 0) (gathered img known (node img n)))
  where
    in_list : n < length known
    in_list = rw sound.as_long l

    gained-only : (o : Outcome) → bit o v ≡ true → Has img (node img n) o
    gained-only o h =
        ⊎_elim
        (λ w. sound.only n o w)
        (λ w. gathered_only img known sound.only (node img n) o w)
        (either _ _ (sym (bit-union o (get_or known n 0) (gathered img known (node img n))) ∙ (rw gained at h)))

    -- A visit that writes what it gained leaves right sets,
    pub stored : Sound img (set known n v)
    stored =
        record {
          as_long = length-set known n v ∙ sound.as_long;
          small =
              after_write (λ (k : ℕ) (x : ℕ). x < 8) known n v 0 in_list
              (rw gained (union_small (get_or known n 0) (gathered img known (node img n))))
              sound.small;
          only =
              after_write (λ (k : ℕ) (x : ℕ). (o : Outcome) → bit o x ≡ true → Has img (node img k) o)
              known n v 0 in_list gained-only sound.only;
          beyond =
              after_write (λ (k : ℕ) (x : ℕ). nodes img ≤ k → x ≡ 0) known n v 0 in_list
              (λ past. absurd (omega arith))
              sound.beyond;
        }

    -- which are heavier;
    pub stored_heavier : (v ≡ get_or known n 0 → ⊥) → weight known < weight (set known n v)
    stored_heavier different =
        let sum = weight_set size known n v 0 in_list in
        let more : size (get_or known n 0) < size v =
        rw gained (union_larger (get_or known n 0) (gathered img known (node img n)) (sound.small n) (λ e. different (gained ∙ e))) in
        omega arith

    -- it is the visit of the definition.
    pub stored_visit : set known n v ≡ gather_at img known n
    unfolding gather_at
    stored_visit = ap (set known n) gained

    pub kept_visit : v ≡ get_or known n 0 → gather_at img known n ≡ known
    unfolding gather_at
    kept_visit same = ap (set known n) (sym gained ∙ same) ∙ set-get_or known n 0

-- A full set gains nothing.
union_full : (b : ℕ) → union 7 b ≡ 7
unfolding union bit pack
union_full b = refl

pub full_visit : (img known : List ℕ) (n : ℕ) → get_or known n 0 ≡ 7 → gather_at img known n ≡ known
unfolding gather_at
full_visit img known n e =
    ap (set known n) (ap (λ (x : ℕ). union x (gathered img known (node img n))) e ∙ union_full (gathered img known (node img n)) ∙ sym e)
    ∙ set-get_or known n 0

-- A node has three outcomes at most.
size_none : size 0 ≡ 0
unfolding size bit
size_none = refl

pub weight_bound : (img known : List ℕ) → Sound img known → weight known ≤ 3 * nodes img
weight_bound img known sound =
    weight_most size 3 (nodes img) known 0 (λ k. size_most (get_or known k 0)) (λ k l. rw (sound.beyond k l) size_none)

module _ (img order : List ℕ) (counts : Question2 img) (words : Question4 img) (all : VisitsAll (nodes img) order) where
  below : {n : ℕ} → n < nodes img → n < 1024
  below l = omega (arith, counts.few_nodes)

  keeps : (known : List ℕ) (n : ℕ) → n < nodes img → Sound img known → Sound img (gather_at img known n)
  unfolding gather_at
  keeps known n l s = stored img known s n (union (get_or known n 0) (gathered img known (node img n))) l (below l) refl

  grows :
      (known : List ℕ) (n : ℕ)
      → n < nodes img
      → Sound img known
      → (gather_at img known n ≡ known) ⊎ (weight known < weight (gather_at img known n))
  unfolding gather_at
  grows known n l s = go (eqb gained (get_or known n 0)) refl
    where
      gained : ℕ
      gained = union (get_or known n 0) (gathered img known (node img n))

      go :
          (b : Bool)
          → eqb gained (get_or known n 0) ≡ b
          → (set known n gained ≡ known) ⊎ (weight known < weight (set known n gained))
      go true e = inl (ap (set known n) (eqb-true gained (get_or known n 0) e) ∙ set-get_or known n 0)
      go false e = inr (stored_heavier img known s n gained l (below l) refl (eqb-false gained (get_or known n 0) e))

  law : Growing (gather_at img) weight (Sound img) (nodes img) (3 * nodes img)
  law = record { keeps = keeps; grows = grows; bounded = weight_bound img }

  start : Sound img no_outcomes
  start = sound_start img 1024 refl

  -- The rounds stop, and what they leave is what 3 × nodes rounds leave.
  abbrev Adds-nothing : ℕ → Type 0
  Adds-nothing k = round (gather_at img) order (rounds (gather_at img) k order no_outcomes) ≡ rounds (gather_at img) k order no_outcomes

  stopped : Adds-nothing (3 * nodes img)
  stopped = still_at_most law order no_outcomes all.only_nodes start

  same :
      (j k : ℕ) → Adds-nothing j → Adds-nothing k → rounds (gather_at img) j order no_outcomes ≡ rounds (gather_at img) k order no_outcomes
  same = same_left law order no_outcomes all.only_nodes start

  pub outcome_rounds_stop :
      (k : ℕ) × StopAfter (gather_at img) k order no_outcomes × (outcome_sets img order ≡ rounds (gather_at img) k order no_outcomes)
  unfolding outcome_sets
  outcome_rounds_stop =
      let s = stop law order no_outcomes all.only_nodes start in
      (s.0, s.1, same (3 * nodes img) s.0 stopped s.1.adds_nothing)

  pub outcome_sets_left :
      (known : List ℕ) → Reached (gather_at img) order no_outcomes known → round (gather_at img) order known ≡ known
      → known ≡ outcome_sets img order
  unfolding outcome_sets
  outcome_sets_left known r e =
      r.after ∙ same r.count (3 * nodes img) (ap (round (gather_at img) order) (sym r.after) ∙ e ∙ r.after) stopped

  pub sound_sets : Sound img (outcome_sets img order)
  unfolding outcome_sets
  sound_sets = rounds_good law order no_outcomes all.only_nodes start (3 * nodes img)

  -- A round that adds something makes the sets heavier, and leaves right ones.
  pub round_adds :
      {known next : List ℕ} {added : Bool}
      → Sound img known
      → RoundMade (round (gather_at img) order known) known next added
      → added ≡ true
      → weight known < weight next
  round_adds {known} {next} s m e = go (round_grows law order known all.only_nodes s)
    where
      go :
          (round (gather_at img) order known ≡ known) ⊎ (weight known < weight (round (gather_at img) order known))
          → weight known < weight next
      go (inl f) = absurd (m.something e (m.is_round ∙ f))
      go (inr h) = rw m.is_round h

  pub round_sound :
      {known next : List ℕ} {added : Bool}
      → Sound img known
      → RoundMade (round (gather_at img) order known) known next added
      → Sound img next
  round_sound {known} s m = subst (Sound img) (sym m.is_round) (round_good law order known all.only_nodes s)

  -- A visit that adds nothing found the node closed.
  closed_by : (known : List ℕ) (n : ℕ) → n < nodes img → Sound img known → gather_at img known n ≡ known → Closed img known n
  unfolding gather_at
  closed_by known n l s e o h =
      let in-known : n < length known = rw s.as_long (below l) in
      let got : get_or known n 0 ≡ union (get_or known n 0) (gathered img known (node img n)) =
      ap (λ (xs : List ℕ). get_or xs n 0) (sym e)
      ∙ get_or-set_same known n (union (get_or known n 0) (gathered img known (node img n))) 0 in-known in
      ap (bit o) got
      ∙ bit-union o (get_or known n 0) (gathered img known (node img n))
      ∙ ap (λ (b : Bool). bit o (get_or known n 0) || b) h
      ∙ or-true (bit o (get_or known n 0))

  pub outcome_sets_least : Outcomes img (outcome_sets img order)
  unfolding outcome_sets
  outcome_sets_least =
      record {
        only = sound_sets.only;
        all = λ n o l h. closed n l o (gathered_all img (outcome_sets img order) words closed h (refers img words n l));
      }
    where
      closed : (n : ℕ) → n < nodes img → Closed img (outcome_sets img order) n
      closed n l =
          closed_by (outcome_sets img order) n l sound_sets
          (subst (λ (m : ℕ). gather_at img (outcome_sets img order) m ≡ outcome_sets img order) (all.visits n l)
          (round_still law order (outcome_sets img order) all.only_nodes sound_sets stopped (all.place n l) (all.in_round n l)))
