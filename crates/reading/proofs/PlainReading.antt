-- The plain reading: from the start pair's word to what is promised. Totality gives the evaluation, its nesting says which case it is.
-- Assumes nothing.
use Rattle.std.specs.Prelude as std
use Rattle.std.specs.Prelude.{Ok, Err}
use Rattle.grammar.specs.declared.refusal.Refusal.{Refusal}
use Rattle.grammar.specs.declared.refusal.Refusal.TheVariants.{Nesting}
use Rattle.std.proofs.Common.{◌≡◌, ℕ, ◌≤◌, List, [], ◌∷◌, length, sym, refl, ap, ◌∙◌, subst, inl, inr, arith}
use Rattle.grammar.specs.declared.Evaluation.{Evaluation}
use Rattle.grammar.specs.Image.{start}
use Rattle.grammar.specs.Evaluates.{a_pair, bodies_only}
use Rattle.grammar.specs.Questions.{Question, of_image, Checked}
use Rattle.grammar.proofs.First.{image_numbers, then_asked}
use Rattle.grammar.proofs.Acceptance.{accepted}
use Rattle.grammar.proofs.Determinism.{one}
use Rattle.evaluation.proofs.Totality.{Exists, total_pair}
use Rattle.evaluation.proofs.Plain.{fresh_within}
use Rattle.records.specs.Words.{value_of}
use Rattle.reading.specs.declared.plain.Reading.{Reading}
use Rattle.packrat.specs.Model.{node_m, rule_m}
use Rattle.reading.proofs.Outcomes.{outcome_says}
use Rattle.reading.specs.Plain.{Reports, ShortText, DepthAllowed, PlainRead, reading_of}
use Rattle.packrat.specs.Session.{StartWord}
use Rattle.packrat.proofs.Gives.{found, was_refused, says}
use Rattle.evaluation.specs.Calls.{bodies_of}
use Rattle.packrat.specs.Over.{over, Over}
use Rattle.packrat.proofs.Grown.{grown_none}
use Rattle.packrat.proofs.OverTables.{Result, fine, deep, pair_over}

-- What a reading reports.
reported : (n : ℕ) (z : Evaluation) → z.length ≤ n → Reports n z (reading_of n z)
reported n z h = record { outcome_is = outcome_says n z h; length_is = refl; examined_is = refl; nesting_is = refl }

module _ (img text : List ℕ) where
  abbrev last_two : List Question
  last_two = record { number = 8; holds = ShortText text } ∷ record { number = 14; holds = DepthAllowed img text } ∷ []

  module _ (c : Checked img 0) where
    module _ (short : length text ≤ 65535) {given-start : std.Result ℕ Refusal} (s : StartWord img text given-start) where
      start_exists : Exists img text (a_pair (start img)) 0
      start_exists = let a = accepted c in total_pair img text a (start img) a.lawful.counts.start_rule 0 (omega arith)

      -- Over no records every pair is answered by its body.
      start-over : Over img text [] (a_pair (start img)) 0 start_exists.value
      unfolding over
      start-over = start_exists.evaluated

      -- What the evaluator gave of the start pair's evaluation.
      abbrev Given : Type 0
      Given = Result img text [] (accepted c).lawful.words short (rule_m img text (node_m img text 4096) 4096 (start img) 0 [] 0) start_exists.value 4096 [] 0 (bodies_of start-over)

      given : Given
      given =
          let l = (accepted c).lawful in
          pair_over img text [] l.words short (start img) 0 start-over l.counts.start_rule (omega arith) 4096 (omega arith) [] (grown_none img text []) 0

      -- Over no records only the nesting refuses it.
      pub start_refused : (r : Refusal) → given-start ≡ Err r → PlainRead img text (Err r)
      start_refused r h = go given
        where
          go : Given → PlainRead img text (Err r)
          go (fine t d k g i e) =
              let f = was_refused short (omega arith) (rw h at s.gives) in
              absurd (let z : ◌≡◌ {A = ℕ} 0 1 = cc (f, e) in omega arith)
          go (deep t d k e) =
              let f = was_refused short (omega arith) (rw h at s.gives) in
              let r_is : r ≡ Nesting = cc (f, e) in
              rw r_is
              (record {
                first =
                    then_asked (of_image img) last_two 14 (image_numbers img) c.first
                    (inr (
                      record { short = short },
                      inl (
                        (λ q.
                            let same = one img text bodies_only q.evaluated start_exists.evaluated in
                            let n = ap (λ (v : Evaluation). v.nesting) same in
                            omega (arith, q.allowed, k)),
                        refl,
                      ),
                    ));
                values = (λ e. record { value = start_exists.value; evaluated = start_exists.evaluated; above = k });
              })

      pub answered_reading : {word : ℕ} → given-start ≡ Ok word → (x : Reading) → x ≡ reading_of (length text) (value_of word) → PlainRead img text (Ok x)
      answered_reading {word} h x ex = go given
        where
          go : Given → PlainRead img text (Ok x)
          go (deep t d k e) =
              let f = found short (omega arith) (rw h at s.gives) in
              absurd (let z : ◌≡◌ {A = ℕ} 0 1 = cc (f.is, e) in omega arith)
          go (fine t d k g i e) =
              let f = found short (omega arith) (rw h at s.gives) in
              let same : f.value ≡ start_exists.value = cc (f.is, e) in
              let word_says : value_of word ≡ start_exists.value = says short (omega arith) f ∙ same in
              let w = fresh_within start_exists.evaluated (omega arith) in
              record {
                first =
                    then_asked (of_image img) last_two 0 (image_numbers img) c.first
                    (inr (record { short = short }, inr (record { value = start_exists.value; evaluated = start_exists.evaluated; allowed = k }, refl)));
                values =
                    record {
                      value = start_exists.value;
                      evaluated = start_exists.evaluated;
                      reports =
                          subst (Reports (length text) start_exists.value) (sym (ex ∙ ap (reading_of (length text)) word_says))
                          (reported (length text) start_exists.value (omega (arith, w.in_text)));
                    };
              }
