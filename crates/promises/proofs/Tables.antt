-- The table wholly lent, and the words after it. Assumes nothing.
use Prim.Native.Nat.{ℕ, ◌+◌, ◌-◌, ◌≤◌}
use native.Mathlib.Omega.{arith}
use mathlib.Core.Path.{◌≡◌, sym, ap, ◌∙◌}
use mathlib.Core.List.{List}
use lib.ListN.{length, get_or, drop, length-drop}
use lib.Seq.{ext_get_or, get_or-drop}
use Rattle.grammar.specs.Image.{rules}
use Rattle.grammar.specs.Questions.{Accepted}
use Rattle.editing.specs.Table.{table_size, TableLent}

-- The table of an accepted image, wholly lent.
pub lent_table :
    {img : List ℕ} (cap : ℕ) (W : List ℕ) → Accepted img → cap ≤ 65535 → table_size (rules img) cap ≤ length W
    → TableLent (rules img) cap W
lent_table cap W accepted small whole =
    record {
      most = small;
      some_rules = accepted.lawful.counts.some_rules;
      most_rules = accepted.lawful.counts.few_rules;
      whole = whole;
    }

-- Lists of one length whose words from m on are the same.
pub same_rest :
    (m : ℕ) (u v : List ℕ) → length u ≡ length v → ((j : ℕ) → m ≤ j → get_or u j 0 ≡ get_or v j 0) → drop m u ≡ drop m v
same_rest m u v e f =
    ext_get_or 0 (drop m u) (drop m v) (length-drop m u ∙ ap (λ (k : ℕ). k - m) e ∙ sym (length-drop m v))
    (λ i l. get_or-drop m u i 0 ∙ f (m + i) (omega arith) ∙ sym (get_or-drop m v i 0))
