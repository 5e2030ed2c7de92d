-- The start pair by its rule's body: over lent records, where its word may be held, and over none. Assumes nothing.
use Rattle.std.specs.Prelude.{Result, Ok, Err}
use Rattle.grammar.specs.declared.refusal.Refusal.{Refusal}
use Rattle.grammar.specs.declared.refusal.Refusal.TheVariants.{Records}
use Prim.Native.Nat.{ℕ, ◌+◌, ◌%◌, ◌≤◌, ◌^◌}
use native.Mathlib.Omega.{arith}
use mathlib.Core.Path.{◌≡◌, refl}
use mathlib.Core.Bool.{Bool, true, false, cond}
use mathlib.Core.List.{List, []}
use lib.ListN.{length, get_or, set}
use Rattle.grammar.specs.Image.{rules, root, start}
use Rattle.records.specs.Words.{is_held, possible, record_of, record_word}
use Rattle.records.specs.Slots.{slot_of}
use Rattle.records.proofs.Test.{says_possible}
use Rattle.packrat.specs.Model.{node_m}
use Rattle.packrat.specs.Session.{StartOver, BodyOver, StartWord}
use Rattle.packrat.proofs.Rules.{rule_impossible, rule_met, rule_refused, rule_stored}

module _ (img text t : List ℕ) (c : ℕ) {held : ℕ} (here : held ≡ get_or t (slot_of (rules img) (start img) 0) 0) where
  -- A held word is the answer where it is possible, which limits its nesting too.
  pub start_met :
      {given : Result ℕ Refusal}
      → is_held held ≡ true
      → given ≡ cond (possible held 0 (length text)) (Ok (record_word (record_of held))) (Err Records)
      → StartOver img text t c given t c
  start_met {given} e w = go (possible held 0 (length text)) refl w
    where
      go : (b : Bool) → possible held 0 (length text) ≡ b → given ≡ cond b (Ok (record_word (record_of held))) (Err Records) → StartOver img text t c given t c
      go true p k =
          rw k
          (rule_met (rules img) (root img (start img)) text (node_m img text 4096) 4096 (start img) 0 t c here e p
          (says_possible held 0 (length text) p).most_nesting
          refl)
      go false p k = rw k (rule_impossible (rules img) (root img (start img)) text (node_m img text 4096) 4096 (start img) 0 t c here e p)

  -- Else it is what its rule's body gives: a refusal, or a word that is stored and counted.
  module _ (short : length text ≤ 65535) (e : is_held held ≡ false) {d : ℕ} {u : List ℕ} where
    pub start_refused : {r : Refusal} → BodyOver img text t c (Err r) u d → StartOver img text t c (Err r) u d
    start_refused g =
        rule_refused (rules img) (root img (start img)) text (node_m img text 4096) 4096 (start img) 0 t c here short (omega arith) e g

    pub start_stored :
        {word : ℕ}
        → BodyOver img text t c (Ok word) u d
        → StartOver img text t c (Ok word) (set u (slot_of (rules img) (start img) 0) word) ((d + 1) % 2 ^ 64)
    start_stored g =
        rule_stored (rules img) (root img (start img)) text (node_m img text 4096) 4096 (start img) 0 t c here short (omega arith) e g

-- Over no records it is the word of the body.
pub start_given :
    (img text : List ℕ) → length text ≤ 65535 → {given : Result ℕ Refusal} {d : ℕ} {u : List ℕ} → BodyOver img text [] 0 given u d → StartWord img text given
start_given img text short {given} {d} {u} g = go given g
  where
    go : (r : Result ℕ Refusal) → BodyOver img text [] 0 r u d → StartWord img text r
    go (Err r) h = record { table = u; count = d; gives = start_refused img text [] 0 {held = 0} refl short refl h }
    go (Ok w) h = record { table = _; count = _; gives = start_stored img text [] 0 {held = 0} refl short refl h }
