-- A lawful image has a loaded grammar, which a proof can compute with. Assumes nothing.
--     loaded_grammar, image_loaded
use Prim.Native.Nat.{ℕ, zero, suc, ◌+◌, ◌^◌, ◌≤◌, ◌<◌}
use native.Mathlib.Omega.{arith}
use mathlib.Core.Path.{◌≡◌, refl, subst}
use mathlib.Core.List.{List, [], ◌∷◌}
use lib.ListN.{get_or}
use Rattle.grammar.specs.Image.{rules, start, root}
use Rattle.grammar.specs.Questions.{Lawful}
use Rattle.image.specs.Linked.{linked_word}
use Rattle.loaded.specs.declared.form.LoadedGrammar.{LoadedGrammar}
use Rattle.loaded.specs.Loaded.{LoadedWord, Loaded}
use Rattle.loaded.proofs.LoadedWords.{linked_loaded, past_word}

-- The number of rules has 8 bits.
pub few_rules : (img : List ℕ) → rules img < 2 ^ 32
unfolding rules
few_rules img = omega arith

-- The number of a rule has 8 bits, and a root 12.
pub rule_fits : (img : List ℕ) → start img < 4096
unfolding start
rule_fits img = omega arith

pub root_fits : (img : List ℕ) (r : ℕ) → root img r < 4096
unfolding root
root_fits img r = omega arith

-- So many words from node i on.
unfoldable pub words_from : (img : List ℕ) (many i : ℕ) → List ℕ
words_from img zero i = []
words_from img (suc m) i = linked_word img i ∷ words_from img m (suc i)

abbrev pub loaded_grammar : (img : List ℕ) → LoadedGrammar
loaded_grammar img =
    record {
      words = words_from img 4096 0;
      rules = rules img;
      start =
          record {
            rule = start img;
            root = root img (start img);
            rule_fits = rule_fits img;
            root_fits = root_fits img (start img);
          };
      few_rules = few_rules img;
    }

module _ (img : List ℕ) (lawful : Lawful img) where
  -- The words from node i on where the image has no node past those.
  each_loaded : (m i k : ℕ) → 1024 ≤ i + m → LoadedWord img (i + k) (get_or (words_from img m i) k 0)
  unfolding words_from
  each_loaded zero i k h = past_word img (i + k) lawful.size (omega (arith, lawful.counts.few_nodes)) (omega arith)
  each_loaded (suc m) i zero h =
      subst (λ (j : ℕ). LoadedWord img j (linked_word img i)) (let e : i ≡ i + 0 = omega arith in e) (linked_loaded img i)
  each_loaded (suc m) i (suc k) h =
      subst (λ (j : ℕ). LoadedWord img j (get_or (words_from img m (suc i)) k 0)) (let e : suc i + k ≡ i + suc k = omega arith in e)
      (each_loaded m (suc i) k (omega arith))

  pub image_loaded : Loaded img (loaded_grammar img)
  image_loaded =
      record {
        rules_are = refl;
        start_is = refl;
        root_is = refl;
        words_are = λ i.
            subst (λ (j : ℕ). LoadedWord img j (get_or (words_from img 4096 0) i 0)) (let e : 0 + i ≡ i = omega arith in e)
            (each_loaded 4096 0 i (omega arith));
      }
