-- The well-formed rounds: a visit marks only a well-formed node, and one more if it changes anything; so the rounds stop, and what
-- they leave, over any order that visits every node, is the well-formed set.
--     formed_nodes_least     the nodes that the rounds leave are the well-formed set
--     formed_rounds_stop     "The rounds stop at the first that adds nothing"
--     formed_nodes_left      marks that some rounds leave and to which the next adds nothing are those
-- Assumes nothing.
use Prim.Native.Nat.{ℕ, ◌≤◌, ◌<◌}
use native.Mathlib.Omega.{arith}
use mathlib.Core.Path.{◌≡◌, refl, sym, ap, ◌∙◌, subst}
use mathlib.Core.Bool.{Bool, true, false, ◌||◌, or-true, true≢false}
use mathlib.Core.Logic.{◌⊎◌, inl, inr}
use mathlib.Core.List.{List}
use lib.ListN.{length, get_or, set, replicate, length-set, length-replicate}
use lib.Seq.{set-get_or, get_or-set_same}
use Rattle.grammar.proofs.Writes.{after_write, all_the_same}
use Rattle.grammar.proofs.Bools.{at_most_1}
use Rattle.grammar.specs.Image.{nodes, node}
use Rattle.grammar.specs.WellFormed.{WellFormed}
use Rattle.grammar.specs.Questions.{Question2, Question4, one_if}
use Rattle.grammar.proofs.References.{refers}
use Rattle.rounds.specs.Order.{VisitsAll}
use Rattle.rounds.specs.Visits.{formed_from, join_at}
use Rattle.rounds.specs.Rounds.{round, rounds, StopAfter, no_marks, formed_nodes, SoundMarks, RoundMade, Outcomes, Formed}
use Rattle.rounds.proofs.Forming.{CannotJoin, formed_only, formed_all}
use Rattle.rounds.proofs.Weights.{weight_by, weight_set, weight_most}
use Rattle.rounds.proofs.Stops.{Growing, round_grows, round_still, rounds_good, still_at_most, same_left, stop}
use Rattle.rounds.proofs.Turns.{Reached}

-- The number of marks.
abbrev pub marks : List Bool → ℕ
marks = weight_by one_if

pub marks_start : (img : List ℕ) (m : ℕ) → m ≡ 1024 → SoundMarks img (replicate m false)
marks_start img m e =
    record {
      as_long = length-replicate m false ∙ e;
      only = λ n h. absurd (true≢false (sym (rw (all_the_same m n false) at h)));
      beyond = λ n l. all_the_same m n false;
    }

module _ (img known : List ℕ) (formed : List Bool) (n : ℕ) where
  -- A visit that finds a node to mark is the visit of the definition,
  pub marked_visit : formed_from img known formed (node img n) ≡ true → set formed n true ≡ join_at img known formed n
  unfolding join_at
  marked_visit h = ap (set formed n) (sym (ap (λ (b : Bool). get_or formed n false || b) h ∙ or-true (get_or formed n false)))

  -- and so is one that leaves the marks: it found a node that does not qualify, or one that has a mark.
  pub unqualified_visit : formed_from img known formed (node img n) ≡ false → join_at img known formed n ≡ formed
  unfolding join_at
  unqualified_visit h = ap (set formed n) (ap (λ (b : Bool). get_or formed n false || b) h ∙ or-false (get_or formed n false)) ∙ set-get_or formed n false
    where
      or-false : (b : Bool) → (b || false) ≡ b
      or-false true = refl
      or-false false = refl

  pub marked_before : get_or formed n false ≡ true → join_at img known formed n ≡ formed
  unfolding join_at
  marked_before h =
      ap (set formed n) (ap (λ (b : Bool). b || formed_from img known formed (node img n)) h ∙ sym h) ∙ set-get_or formed n false

module _
    (img known : List ℕ)
    (formed : List Bool)
    (words : Question4 img)
    (sets : Outcomes img known)
    (sound : SoundMarks img formed)
    (n : ℕ)
    (l : n < nodes img)
    (in_List : n < length formed)
  where
    -- A visit that finds a node to mark leaves right marks,
    pub marked : formed_from img known formed (node img n) ≡ true → SoundMarks img (set formed n true)
    marked h =
        record {
          as_long = length-set formed n true ∙ sound.as_long;
          only =
              after_write (λ (k : ℕ) (b : Bool). b ≡ true → WellFormed img (node img k))
              formed n true false in_List
              (λ e. formed_only img known formed sets sound.only (node img n) (refers img words n l) h)
              sound.only;
          beyond =
              after_write (λ (k : ℕ) (b : Bool). nodes img ≤ k → b ≡ false)
              formed n true false in_List
              (λ past. absurd (omega arith))
              sound.beyond;
        }

    -- one more than before.
    pub marked_heavier : get_or formed n false ≡ false → marks formed < marks (set formed n true)
    marked_heavier e =
        let sum = weight_set one_if formed n true false in_List in
        let was : one_if (get_or formed n false) ≡ 0 = ap one_if e in
        omega arith

pub marks_bound : (img : List ℕ) (formed : List Bool) → SoundMarks img formed → marks formed ≤ nodes img
marks_bound img formed sound =
    let most =
    weight_most one_if 1 (nodes img) formed false (λ k. at_most_1 (get_or formed k false)) (λ k l. ap one_if (sound.beyond k l)) in
    omega arith

module _
    (img known order : List ℕ)
    (counts : Question2 img)
    (words : Question4 img)
    (sets : Outcomes img known)
    (all : VisitsAll (nodes img) order)
  where
    inside : (formed : List Bool) (n : ℕ) → n < nodes img → SoundMarks img formed → n < length formed
    inside formed n l s = omega (arith, s.as_long, counts.few_nodes)

    keeps : (formed : List Bool) (n : ℕ) → n < nodes img → SoundMarks img formed → SoundMarks img (join_at img known formed n)
    keeps formed n l s = go (formed_from img known formed (node img n)) refl
      where
        go : (b : Bool) → formed_from img known formed (node img n) ≡ b → SoundMarks img (join_at img known formed n)
        go true e =
            subst (SoundMarks img) (marked_visit img known formed n e)
            (marked img known formed words sets s n l (inside formed n l s) e)
        go false e = subst (SoundMarks img) (sym (unqualified_visit img known formed n e)) s

    grows :
        (formed : List Bool) (n : ℕ)
        → n < nodes img
        → SoundMarks img formed
        → (join_at img known formed n ≡ formed) ⊎ (marks formed < marks (join_at img known formed n))
    grows formed n l s = go (get_or formed n false) refl (formed_from img known formed (node img n)) refl
      where
        go :
            (a : Bool)
            → get_or formed n false ≡ a
            → (b : Bool)
            → formed_from img known formed (node img n) ≡ b
            → (join_at img known formed n ≡ formed) ⊎ (marks formed < marks (join_at img known formed n))
        go true e b f = inl (marked_before img known formed n e)
        go false e true f =
            inr
            (subst (λ (xs : List Bool). marks formed < marks xs) (marked_visit img known formed n f)
            (marked_heavier img known formed words sets s n l (inside formed n l s) e))
        go false e false f = inl (unqualified_visit img known formed n f)

    law : Growing (join_at img known) marks (SoundMarks img) (nodes img) (nodes img)
    law = record { keeps = keeps; grows = grows; bounded = marks_bound img }

    start : SoundMarks img no_marks
    start = marks_start img 1024 refl

    -- The rounds stop, and what they leave is what as many rounds leave as there are nodes.
    abbrev Adds-nothing : ℕ → Type 0
    Adds-nothing k = round (join_at img known) order (rounds (join_at img known) k order no_marks) ≡ rounds (join_at img known) k order no_marks

    stopped : Adds-nothing (nodes img)
    stopped = still_at_most law order no_marks all.only_nodes start

    same : (j k : ℕ) → Adds-nothing j → Adds-nothing k → rounds (join_at img known) j order no_marks ≡ rounds (join_at img known) k order no_marks
    same = same_left law order no_marks all.only_nodes start

    pub formed_rounds_stop :
        (k : ℕ) × StopAfter (join_at img known) k order no_marks × (formed_nodes img known order ≡ rounds (join_at img known) k order no_marks)
    unfolding formed_nodes
    formed_rounds_stop =
        let s = stop law order no_marks all.only_nodes start in
        (s.0, s.1, same (nodes img) s.0 stopped s.1.adds_nothing)

    pub formed_nodes_left :
        (formed : List Bool)
        → Reached (join_at img known) order no_marks formed
        → round (join_at img known) order formed ≡ formed
        → formed ≡ formed_nodes img known order
    unfolding formed_nodes
    formed_nodes_left formed r e =
        r.after ∙ same r.count (nodes img) (ap (round (join_at img known) order) (sym r.after) ∙ e ∙ r.after) stopped

    sound-nodes : SoundMarks img (formed_nodes img known order)
    unfolding formed_nodes
    sound-nodes = rounds_good law order no_marks all.only_nodes start (nodes img)

    -- A round that adds something makes one mark more at least.
    pub round_marks :
        {formed next : List Bool} {added : Bool}
        → SoundMarks img formed
        → RoundMade (round (join_at img known) order formed) formed next added
        → added ≡ true
        → marks formed < marks next
    round_marks {formed} {next} s m e = go (round_grows law order formed all.only_nodes s)
      where
        go :
            (round (join_at img known) order formed ≡ formed) ⊎ (marks formed < marks (round (join_at img known) order formed))
            → marks formed < marks next
        go (inl f) = absurd (m.something e (m.is_round ∙ f))
        go (inr h) = rw m.is_round h

    -- A visit that adds nothing found a node that cannot join.
    cannot-by : (formed : List Bool) (n : ℕ) → n < nodes img → SoundMarks img formed → join_at img known formed n ≡ formed → CannotJoin img known formed n
    unfolding join_at
    cannot-by formed n l s e h =
        ap (λ (xs : List Bool). get_or xs n false) (sym e)
        ∙ get_or-set_same formed n (get_or formed n false || formed_from img known formed (node img n)) false (inside formed n l s)
        ∙ ap (λ (b : Bool). get_or formed n false || b) h
        ∙ or-true (get_or formed n false)

    pub formed_nodes_least : Formed img (formed_nodes img known order)
    unfolding formed_nodes
    formed_nodes_least =
        record {
          only = sound-nodes.only;
          all = λ n l w. cannot-join n l (formed_all img known (formed_nodes img known order) words sets cannot-join w (refers img words n l));
        }
      where
        cannot-join : (n : ℕ) → n < nodes img → CannotJoin img known (formed_nodes img known order) n
        cannot-join n l =
            cannot-by (formed_nodes img known order) n l sound-nodes
            (subst (λ (m : ℕ). join_at img known (formed_nodes img known order) m ≡ formed_nodes img known order) (all.visits n l)
            (round_still law order (formed_nodes img known order) all.only_nodes sound-nodes stopped (all.place n l) (all.in_round n l)))
