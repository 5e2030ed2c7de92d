-- The ways through the steps of the walk: from what the calls give to what a step gives. Assumes nothing.
use Rattle.std.specs.Prelude.{Option, Some, None, Result, Ok, Err}
use Prim.Native.Nat.{ℕ, zero, suc, ◌+◌, ◌≤◌, ◌<◌}
use native.Mathlib.Omega.{arith}
use mathlib.Core.Path.{◌≡◌, refl, sym, ap, ◌∙◌}
use mathlib.Core.Bool.{Bool, true, false, not}
use mathlib.Core.List.{List, [], ◌++◌, append_assoc}
use lib.ListN.{length, length-append}
use lib.Seq.{sets}
use lib.Dec.{eqb}
use borrow.Author.Tests.{ne_eqb, eq-eqb}
use Rattle.grammar.specs.declared.refusal.Refusal.{Refusal}
use Rattle.grammar.specs.declared.refusal.Refusal.TheVariants.{Records}
use Rattle.grammar.specs.declared.node.Node.TheVariants.{Sequence, Choice, Star, NotPredicate}
use Rattle.rows.specs.Window.{touches}
use Rattle.rows.specs.Walk.{walked, stopped, Trail, trail, Walker, bind, after, after_look, part_v, joined, after_first, after_choice}
use Rattle.rows.specs.Walk.{after_round, rounds_v, kind_v}
use Rattle.rows.specs.Bounds.{Bounded}
use Rattle.rows.proofs.Bounds.{Stays, part_bounded, node_bounded}
use Rattle.listing.specs.declared.state.Walk.{Walk}
use Rattle.listing.specs.declared.slots.Window.{Window}
use Rattle.listing.specs.Gives.{Gives, Kept, Steady, nodes_of, parts_of, inside_of}
use Rattle.listing.proofs.Gives.{sets_both, Found, found, failed, at_once, just, and_then, and_stop, same_walk, same_parts}

-- Stores and rows before a walk.
pub prefixed :
    {c c0 : ℕ} {l l0 : List ℕ} {r : Result (Option ℕ) Refusal} {l' : List ℕ} {d : ℕ} {o q : Trail} (ws : List ℕ)
    → o ≡ after ws q → l ≡ sets l0 c0 ws → c ≡ c0 + length ws → Gives c l r l' d q → Gives c0 l0 r l' d o
unfolding after
prefixed {c0 = c0} {l0 = l0} ws is written counted g =
    record {
      answer = g.answer;
      words = ws ++ g.words;
      is = is ∙ ap (after ws) g.is;
      given_is = g.given_is;
      written = g.written ∙ (λ i. sets (written i) (counted i) g.words) ∙ sym (sets_both l0 c0 ws g.words);
      counted = let k = length-append ws g.words in omega (arith, g.counted);
    }

after_none : (o : Trail) → o ≡ after [] o
unfolding after
after_none (trail e f) = refl

after_both : (ws vs : List ℕ) (o : Trail) → after ws (after vs o) ≡ after (ws ++ vs) o
unfolding after
after_both ws vs (trail e f) = ap (trail e) (sym (append_assoc ws vs f))

abbrev Answer : Type 0
Answer = Result (Option ℕ) Refusal

stays : (w : Walk) (left : ℕ) → Stays (length w.text.now) w.room (nodes_of w left)
stays w left = node_bounded w.room w.grammar.now w.text.now w.table.now left

parts_stay : (w : Walk) (left : ℕ) → Stays (length w.text.now) w.room (parts_of w left)
parts_stay w left = part_bounded (length w.text.now) w.room (nodes_of w left) (stays w left)

module _ {w v : Walk} (kept : Kept w v) {at k allowance : ℕ} (s : Steady w.text.now at k allowance) (left : ℕ) where
  abbrev n : ℕ
  n = length w.text.now

  abbrev ev : Walker
  ev = nodes_of w left

  -- A node came first.
  module _ (a lo hi : ℕ) {r : Answer} (g : Gives w.count w.rows.now r v.rows.now v.count (nodes_of w left a at lo hi k w.count)) where
    bounds : Bounded n w.room at w.count (nodes_of w left a at lo hi k w.count)
    bounds = stays w left a at lo hi k w.count s.here w.few

    pub node_found :
        {x : ℕ} → r ≡ Ok (Some x)
        → Found (length w.text.now) at w.count w.rows.now x v.rows.now v.count (nodes_of w left a at lo hi k w.count)
    node_found i = found g bounds i

    then_b : ℕ → Bool → ℕ → ℕ → Trail
    then_b b m l c = after_first m l (ev b (at + l) lo hi k) c

    pub sequence_stops :
        (root b : ℕ) {e : Refusal} {q : Answer} → r ≡ Err e → q ≡ Err e
        → Gives w.count w.rows.now q v.rows.now v.count (inside_of w left root (Sequence a b) at lo hi k w.count)
    unfolding kind_v then_b
    sequence_stops root b i j = and_stop (then_b b) g i j

    pub sequence_fails :
        (root b : ℕ) → r ≡ Ok None
        → Gives w.count w.rows.now (Ok None) v.rows.now v.count (inside_of w left root (Sequence a b) at lo hi k w.count)
    unfolding kind_v then_b after_first
    sequence_fails root b i =
        let f = failed g bounds i in
        and_then f.words (then_b b) f.is f.written f.counted (at_once (walked false 0 v.count) refl refl)

    module _ {x : ℕ} (i : r ≡ Ok (Some x)) (b : ℕ) {y : Answer} {l2 : List ℕ} {e : ℕ}
        (g2 : Gives v.count v.rows.now y l2 e (nodes_of v left b (at + x) lo hi k v.count))
      where
        second : Gives v.count v.rows.now y l2 e (nodes_of w left b (at + x) lo hi k v.count)
        second = same_walk kept left _ _ _ _ _ g2

        its_bounds : Bounded n w.room (at + x) v.count (nodes_of w left b (at + x) lo hi k v.count)
        its_bounds = stays w left b (at + x) lo hi k v.count (node_found i).in_text (omega (arith, v.few, kept.room_is))

        join : Bool → ℕ → ℕ → Trail
        join m l c = joined m x l c

        after_a :
            (root : ℕ) {q : Answer} → Gives v.count v.rows.now q l2 e (bind (ev b (at + x) lo hi k v.count) join)
            → Gives w.count w.rows.now q l2 e (inside_of w left root (Sequence a b) at lo hi k w.count)
        unfolding kind_v after_first then_b join
        after_a root t = let f = node_found i in and_then f.words (then_b b) f.is f.written f.counted t

        pub sequence_in_text : {z : ℕ} → y ≡ Ok (Some z) → at + x + z ≤ length w.text.now
        sequence_in_text j = (found second its_bounds j).in_text

        pub sequence_second_stops :
            (root : ℕ) {f : Refusal} {q : Answer} → y ≡ Err f → q ≡ Err f
            → Gives w.count w.rows.now q l2 e (inside_of w left root (Sequence a b) at lo hi k w.count)
        sequence_second_stops root j m = after_a root (and_stop join second j m)

        pub sequence_second_fails :
            (root : ℕ) → y ≡ Ok None
            → Gives w.count w.rows.now (Ok None) l2 e (inside_of w left root (Sequence a b) at lo hi k w.count)
        unfolding join joined
        sequence_second_fails root j =
            let f = failed second its_bounds j in
            after_a root (and_then f.words join f.is f.written f.counted (at_once (walked false 0 e) refl refl))

        pub sequence_both :
            (root : ℕ) {z : ℕ} → y ≡ Ok (Some z)
            → Gives w.count w.rows.now (Ok (Some (x + z))) l2 e (inside_of w left root (Sequence a b) at lo hi k w.count)
        unfolding join joined
        sequence_both root {z} j =
            let f = found second its_bounds j in
            after_a root (and_then f.words join f.is f.written f.counted (at_once (walked true (x + z) e) refl refl))

  -- A node was only looked at: a not, and the first half of a part.
  module _ (a : ℕ) {r : Answer}
      (g : Gives w.count w.rows.now r v.rows.now v.count (nodes_of w left a at (length w.text.now + 1) 0 k w.count))
    where
      turned : Bool → ℕ → ℕ → Trail
      turned m l c = trail (walked (not m) 0 c) []

      pub not_stops :
          (root lo hi : ℕ) {e : Refusal} {q : Answer} → r ≡ Err e → q ≡ Err e
          → Gives w.count w.rows.now q v.rows.now v.count (inside_of w left root (NotPredicate a) at lo hi k w.count)
      unfolding kind_v turned
      not_stops root lo hi i j = and_stop turned g i j

      pub not_fails :
          (root lo hi : ℕ) {x : ℕ} → r ≡ Ok (Some x)
          → Gives w.count w.rows.now (Ok None) v.rows.now v.count (inside_of w left root (NotPredicate a) at lo hi k w.count)
      unfolding kind_v turned
      not_fails root lo hi i =
          let f = node_found a (length w.text.now + 1) 0 g i in
          and_then f.words turned f.is f.written f.counted (at_once (walked false 0 v.count) refl refl)

      pub not_matches :
          (root lo hi : ℕ) → r ≡ Ok None
          → Gives w.count w.rows.now (Ok (Some 0)) v.rows.now v.count (inside_of w left root (NotPredicate a) at lo hi k w.count)
      unfolding kind_v turned
      not_matches root lo hi i =
          let f = failed g (bounds a (length w.text.now + 1) 0 g) i in
          and_then f.words turned f.is f.written f.counted (at_once (walked true 0 v.count) refl refl)

      then_walk : (lo hi : ℕ) → Bool → ℕ → ℕ → Trail
      then_walk lo hi m l c = after_look m (touches lo hi at l) l (ev a at lo hi k) c

      pub part_stops :
          (lo hi : ℕ) {e : Refusal} {q : Answer} → r ≡ Err e → q ≡ Err e
          → Gives w.count w.rows.now q v.rows.now v.count (parts_of w left a at lo hi k w.count)
      unfolding part_v then_walk
      part_stops lo hi i j = and_stop (then_walk lo hi) g i j

      pub part_fails :
          (lo hi : ℕ) → r ≡ Ok None → Gives w.count w.rows.now (Ok None) v.rows.now v.count (parts_of w left a at lo hi k w.count)
      unfolding part_v then_walk after_look
      part_fails lo hi i =
          let f = failed g (bounds a (length w.text.now + 1) 0 g) i in
          and_then f.words (then_walk lo hi) f.is f.written f.counted (at_once (walked false 0 v.count) refl refl)

      module _ (lo hi : ℕ) {x : ℕ} (i : r ≡ Ok (Some x)) where
        pub part_missed :
            touches lo hi at x ≡ false → Gives w.count w.rows.now (Ok (Some x)) v.rows.now v.count (parts_of w left a at lo hi k w.count)
        unfolding part_v then_walk after_look
        part_missed e =
            let f = node_found a (length w.text.now + 1) 0 g i in
            and_then f.words (then_walk lo hi) f.is f.written f.counted
            (at_once (walked true x v.count) (ap (λ (t : Bool). after_look true t x (ev a at lo hi k) v.count) e) refl)

        pub part_goes :
            {y : Answer} {l2 : List ℕ} {e : ℕ} → touches lo hi at x ≡ true
            → Gives v.count v.rows.now y l2 e (nodes_of v left a at lo hi k v.count)
            → Gives w.count w.rows.now y l2 e (parts_of w left a at lo hi k w.count)
        unfolding part_v then_walk after_look
        part_goes t g2 =
            let f = node_found a (length w.text.now + 1) 0 g i in
            and_then f.words (then_walk lo hi) f.is f.written f.counted
            (just (ap (λ (b : Bool). after_look true b x (ev a at lo hi k) v.count) t) (same_walk kept left _ _ _ _ _ g2))

  -- The first of a choice.
  module _ (a lo hi : ℕ) {r : Answer} (g : Gives w.count w.rows.now r v.rows.now v.count (parts_of w left a at lo hi k w.count)) where
    else_b : ℕ → Bool → ℕ → ℕ → Trail
    else_b b m l c = after_choice m l (ev b at lo hi k) c

    first_bounds : Bounded n w.room at w.count (parts_of w left a at lo hi k w.count)
    first_bounds = parts_stay w left a at lo hi k w.count s.here w.few

    pub choice_stops :
        (root b : ℕ) {e : Refusal} {q : Answer} → r ≡ Err e → q ≡ Err e
        → Gives w.count w.rows.now q v.rows.now v.count (inside_of w left root (Choice a b) at lo hi k w.count)
    unfolding kind_v else_b
    choice_stops root b i j = and_stop (else_b b) g i j

    pub choice_first :
        (root b : ℕ) {x : ℕ} → r ≡ Ok (Some x)
        → Gives w.count w.rows.now (Ok (Some x)) v.rows.now v.count (inside_of w left root (Choice a b) at lo hi k w.count)
    unfolding kind_v else_b after_choice
    choice_first root b {x} i =
        let f = found g first_bounds i in
        and_then f.words (else_b b) f.is f.written f.counted (at_once (walked true x v.count) refl refl)

    pub choice_second :
        (root b : ℕ) {y : Answer} {l2 : List ℕ} {e : ℕ} → r ≡ Ok None
        → Gives v.count v.rows.now y l2 e (nodes_of v left b at lo hi k v.count)
        → Gives w.count w.rows.now y l2 e (inside_of w left root (Choice a b) at lo hi k w.count)
    unfolding kind_v else_b after_choice
    choice_second root b i g2 =
        let f = failed g first_bounds i in and_then f.words (else_b b) f.is f.written f.counted (same_walk kept left _ _ _ _ _ g2)

-- The rounds so far of a star, which leave the walk v.
pub record Rounds (w : Walk) (left a at : ℕ) (t : Window) (k before : ℕ) (v : Walk) : Type 0 where
  pub fuel : ℕ
  pub words : List ℕ
  pub enough : length w.text.now < fuel + (at + before)
  pub is :
      inside_of w left 0 (Star a) at t.lo t.hi k w.count
      ≡ after words (rounds_v fuel (length w.text.now) (nodes_of w left) a at t.lo t.hi k before v.count)
  pub written : v.rows.now ≡ sets w.rows.now w.count words
  pub counted : v.count ≡ w.count + length words
  pub in_text : at + before ≤ length w.text.now

pub star_start :
    {w : Walk} {left a at k allowance : ℕ} {t : Window} → Steady w.text.now at k allowance → Rounds w left a at t k 0 w
unfolding kind_v
star_start {w} {left} {a} {at} {k} {t = t} s =
    record {
      fuel = suc (length w.text.now);
      words = [];
      enough = omega arith;
      is = after_none (rounds_v (suc (length w.text.now)) (length w.text.now) (nodes_of w left) a at t.lo t.hi k 0 w.count);
      written = refl;
      counted = omega arith;
      in_text = omega (arith, s.here);
    }

module _ {w v : Walk} (kept : Kept w v) {left a at : ℕ} {t : Window} {k before : ℕ} (s : Rounds w left a at t k before v) {r : Answer}
    {u : Walk} (_ : Kept v u) (g : Gives v.count v.rows.now r u.rows.now u.count (parts_of v left a (at + before) t.lo t.hi k v.count))
  where
    abbrev long : ℕ
    long = length w.text.now

    abbrev more : ℕ → ℕ → ℕ → Trail
    more f b c = rounds_v f long (nodes_of w left) a at t.lo t.hi k b c

    step_of : ℕ → Bool → ℕ → ℕ → Trail
    step_of f m l c = after_round m (eqb l 0) before (more f (before + l)) c

    round : Gives v.count v.rows.now r u.rows.now u.count (parts_of w left a (at + before) t.lo t.hi k v.count)
    round = same_parts kept left _ _ _ _ _ g

    round_bounds : Bounded long w.room (at + before) v.count (parts_of w left a (at + before) t.lo t.hi k v.count)
    round_bounds = parts_stay w left a (at + before) t.lo t.hi k v.count s.in_text (omega (arith, v.few, kept.room_is))

    -- There is fuel for a round.
    opened :
        {q : Answer}
        → ((f : ℕ) → Gives v.count v.rows.now q u.rows.now u.count (bind (parts_of w left a (at + before) t.lo t.hi k v.count) (step_of f)))
        → Gives w.count w.rows.now q u.rows.now u.count (inside_of w left 0 (Star a) at t.lo t.hi k w.count)
    unfolding rounds_v step_of
    opened {q} f = go s.fuel s.enough s.is
      where
        go :
            (m : ℕ) → long < m + (at + before)
            → inside_of w left 0 (Star a) at t.lo t.hi k w.count ≡ after s.words (more m before v.count)
            → Gives w.count w.rows.now q u.rows.now u.count (inside_of w left 0 (Star a) at t.lo t.hi k w.count)
        go zero enough is = absurd (omega (arith, s.in_text))
        go (suc m) enough is = prefixed s.words is s.written s.counted (f m)

    pub star_stops :
        {e : Refusal} {q : Answer} → r ≡ Err e → q ≡ Err e
        → Gives w.count w.rows.now q u.rows.now u.count (inside_of w left 0 (Star a) at t.lo t.hi k w.count)
    star_stops i j = opened (λ f. and_stop (step_of f) round i j)

    pub star_last :
        r ≡ Ok None → Gives w.count w.rows.now (Ok (Some before)) u.rows.now u.count (inside_of w left 0 (Star a) at t.lo t.hi k w.count)
    unfolding after_round step_of
    star_last i =
        let x = failed round round_bounds i in
        opened (λ f. and_then x.words (step_of f) x.is x.written x.counted (at_once (walked true before u.count) refl refl))

    module _ {x : ℕ} (i : r ≡ Ok (Some x)) where
      its_round : Found long (at + before) v.count v.rows.now x u.rows.now u.count (parts_of w left a (at + before) t.lo t.hi k v.count)
      its_round = found round round_bounds i

      pub star_in_text : at + before + x ≤ length w.text.now
      star_in_text = its_round.in_text

      pub star_still :
          x ≡ 0 → Gives w.count w.rows.now (Err Records) u.rows.now u.count (inside_of w left 0 (Star a) at t.lo t.hi k w.count)
      unfolding after_round step_of
      star_still e =
          let y = its_round in
          opened (λ f.
          and_then y.words (step_of f) y.is y.written y.counted
          (at_once (stopped Records) (ap (λ (b : Bool). after_round true b before (more f (before + x)) u.count) (eq-eqb x 0 e)) refl))

      pub star_more : (x ≡ 0 → ⊥) → Rounds w left a at t k (before + x) u
      unfolding rounds_v after_round step_of bind
      star_more ne = go s.fuel s.enough s.is
        where
          y : Found long (at + before) v.count v.rows.now x u.rows.now u.count (parts_of w left a (at + before) t.lo t.hi k v.count)
          y = its_round

          go :
              (m : ℕ) → long < m + (at + before)
              → inside_of w left 0 (Star a) at t.lo t.hi k w.count ≡ after s.words (more m before v.count) → Rounds w left a at t k (before + x) u
          go zero enough is = absurd (omega (arith, s.in_text))
          go (suc m) enough is =
              record {
                fuel = m;
                words = s.words ++ y.words;
                enough = omega (arith, ne);
                is =
                    is
                    ∙ ap (λ (o : Trail). after s.words (bind o (step_of m))) y.is
                    ∙ ap (λ (b : Bool). after s.words (after y.words (after_round true b before (more m (before + x)) u.count))) (ne_eqb x 0 ne)
                    ∙ after_both s.words y.words (more m (before + x) u.count);
                written = y.written ∙ (λ i. sets (s.written i) (s.counted i) y.words) ∙ sym (sets_both w.rows.now w.count s.words y.words);
                counted = let j = length-append s.words y.words in omega (arith, y.counted, s.counted);
                in_text = omega (arith, y.in_text);
              }
