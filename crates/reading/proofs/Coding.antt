-- The code of a plain reading's answer is injective: among answers that a plain reading of one text can give, the number tells which
-- it was. Assumes nothing.
use Rattle.grammar.proofs.Refusals.{same_refusal, number_bounds}
use Rattle.std.specs.Prelude.{Ok, Err}
use Rattle.std.proofs.Common.{◌≡◌, ℕ, ◌^◌, ◌<◌, List, length, sym, refl, ap, ◌∙◌, inl, inr, true≢false, arith}
use Rattle.grammar.specs.declared.Evaluation.{Evaluation}
use Rattle.grammar.specs.Evaluates.{bodies_only}
use Rattle.grammar.specs.Questions.{First}
use Rattle.grammar.proofs.Determinism.{one}
use Rattle.evaluation.proofs.Plain.{fresh_within}
use Rattle.records.specs.Words.{word_of, value_of}
use Rattle.records.proofs.Codec.{InRange, plain_word, value_back, word_held}
use Rattle.reading.specs.declared.plain.Outcome.{Outcome}
use Rattle.reading.specs.declared.plain.Outcome.TheVariants.{Whole, Part, Nothing}
use Rattle.reading.specs.declared.plain.Reading.{Reading}
use Rattle.reading.specs.Plain.{PlainAnswer}
use Rattle.reading.specs.Plain.{Says, ShortText, DepthAllowed, of_plain, PlainRead}
use Rattle.reading.specs.Code.{matched_in, code_of}

-- What the outcome says of the length, in a text of n bytes.
abbrev pub Fits : Outcome → (n l : ℕ) → Type 0
Fits Whole n l = l ≡ n
Fits Part n l = l < n
Fits Nothing n l = Unit {0}

-- The answers that have a code: fields that fit, an outcome that fits the length; every refusal.
pub record Codable (n : ℕ) (x : Reading) : Type 0 where
  pub nesting_fits : x.nesting < 2 ^ 13
  pub examined_fits : x.examined < 2 ^ 17
  pub length_fits : x.length < 2 ^ 16
  pub outcome_fits : Fits x.outcome n x.length

abbrev pub HasCode : ℕ → PlainAnswer → Type 0
HasCode n (Ok x) = Codable n x
HasCode n (Err r) = Unit {0}

-- The evaluation that a reading reports.
abbrev evaluation_in : Reading → Evaluation
evaluation_in x = record { matched = matched_in x.outcome; length = x.length; examined = x.examined; nesting = x.nesting }

in_range : {n : ℕ} {x : Reading} → Codable n x → InRange (evaluation_in x)
in_range c = record { nesting_fits = c.nesting_fits; examined_fits = c.examined_fits; length_fits = c.length_fits }

code_is_word : {n : ℕ} {x : Reading} → Codable n x → code_of (Ok x) ≡ word_of (evaluation_in x)
code_is_word {x = x} c =
    plain_word (matched_in x.outcome) x.nesting x.examined x.length c.nesting_fits c.examined_fits c.length_fits

-- The same evaluation is reported as the same outcome.
same_outcome :
    (n : ℕ) (a b : Outcome) (l : ℕ) → Fits a n l → Fits b n l → matched_in a ≡ matched_in b → a ≡ b
same_outcome n Whole Whole l p q e = refl
same_outcome n Whole Part l p q e = absurd (omega arith)
same_outcome n Whole Nothing l p q e = absurd (true≢false e)
same_outcome n Part Whole l p q e = absurd (omega arith)
same_outcome n Part Part l p q e = refl
same_outcome n Part Nothing l p q e = absurd (true≢false e)
same_outcome n Nothing Whole l p q e = absurd (true≢false (sym e))
same_outcome n Nothing Part l p q e = absurd (true≢false (sym e))
same_outcome n Nothing Nothing l p q e = refl

pub code_injective : (n : ℕ) (a b : PlainAnswer) → HasCode n a → HasCode n b → code_of a ≡ code_of b → a ≡ b
code_injective n (Err j) (Err k) p q e = ap Err (same_refusal e)
code_injective n (Err j) (Ok x) p q e =
    absurd (let b = number_bounds j in let h = word_held (evaluation_in x) (in_range q) in let w = code_is_word q in omega arith)
code_injective n (Ok x) (Err k) p q e =
    absurd (let b = number_bounds k in let h = word_held (evaluation_in x) (in_range p) in let w = code_is_word p in omega arith)
code_injective n (Ok x) (Ok y) p q e =
    let same : evaluation_in x ≡ evaluation_in y =
    sym (value_back (evaluation_in x) (in_range p))
    ∙ ap value_of (sym (code_is_word p) ∙ e ∙ code_is_word q)
    ∙ value_back (evaluation_in y) (in_range q) in
    let len = ap (λ (v : Evaluation). v.length) same in
    let seen = ap (λ (v : Evaluation). v.examined) same in
    let nest = ap (λ (v : Evaluation). v.nesting) same in
    let told = same_outcome n x.outcome y.outcome x.length p.outcome_fits (subst⁻ y.outcome len q.outcome_fits) (ap (λ (v : Evaluation). v.matched) same) in
    ap Ok (λ i. record { outcome = told i; length = len i; examined = seen i; nesting = nest i })
  where
    subst⁻ : (o : Outcome) → x.length ≡ y.length → Fits o n y.length → Fits o n x.length
    subst⁻ o l f = rw l f

-- Question 8 and question 14 are passed where none fails.
last_passed : (img text : List ℕ) → First (of_plain img text) 0 → ShortText text × DepthAllowed img text
last_passed img text (inl a) = absurd (let d = a.1 in omega arith)
last_passed img text (inr (q1, inl a)) = absurd (let d = a.1 in omega arith)
last_passed img text (inr (q1, inr (q2, inl a))) = absurd (let d = a.1 in omega arith)
last_passed img text (inr (q1, inr (q2, inr (q3, inl a)))) = absurd (let d = a.1 in omega arith)
last_passed img text (inr (q1, inr (q2, inr (q3, inr (q4, inl a))))) = absurd (let d = a.1 in omega arith)
last_passed img text (inr (q1, inr (q2, inr (q3, inr (q4, inr (q5, inl a)))))) = absurd (let d = a.1 in omega arith)
last_passed img text (inr (q1, inr (q2, inr (q3, inr (q4, inr (q5, inr (q6, inl a))))))) = absurd (let d = a.1 in omega arith)
last_passed img text (inr (q1, inr (q2, inr (q3, inr (q4, inr (q5, inr (q6, inr (q7, inl a)))))))) =
    absurd (let d = a.1 in omega arith)
last_passed img text (inr (q1, inr (q2, inr (q3, inr (q4, inr (q5, inr (q6, inr (q7, inr (q8, inl a))))))))) =
    absurd (let d = a.1 in omega arith)
last_passed img text (inr (q1, inr (q2, inr (q3, inr (q4, inr (q5, inr (q6, inr (q7, inr (q8, inr (q14, d)))))))))) = (q8, q14)

outcome_fits : (o : Outcome) (n : ℕ) (z : Evaluation) (l : ℕ) → l ≡ z.length → Says o n z → Fits o n l
outcome_fits Whole n z l e s = e ∙ s.1
outcome_fits Part n z l e s = let h = s.1 in omega arith
outcome_fits Nothing n z l e s = tt

-- Every answer that the plain reading promises has a code.
pub has_code : (img text : List ℕ) (r : PlainAnswer) → PlainRead img text r → HasCode (length text) r
has_code img text (Err r) p = tt
has_code img text (Ok x) p =
    let q = last_passed img text p.first in
    let v = p.values in
    let same = one img text bodies_only v.evaluated q.1.evaluated in
    let nest = ap (λ (z : Evaluation). z.nesting) same in
    let w = fresh_within v.evaluated (omega arith) in
    let s = q.0.short in
    record {
      nesting_fits = omega (arith, v.reports.nesting_is, q.1.allowed);
      examined_fits = omega (arith, v.reports.examined_is, w.up_to_end);
      length_fits = omega (arith, v.reports.length_is, w.in_text);
      outcome_fits = outcome_fits x.outcome (length text) v.value x.length v.reports.length_is v.reports.outcome_is;
    }
