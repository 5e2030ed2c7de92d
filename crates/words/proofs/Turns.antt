-- What is filled and counted over a row, where the turns have come to its end. Assumes nothing.
use Prim.Native.Nat.{ℕ}
use mathlib.Core.Path.{◌≡◌, refl, ap, ◌∙◌}
use mathlib.Core.List.{List}
use Rattle.buffers.proofs.Fill.{fit}
use Rattle.editing.specs.Held.{held_to}
use Rattle.words.specs.Counted.{Counted}

pub counted_all : {f : ℕ → ℕ} {old new : List ℕ} {i n c : ℕ} → Counted f old new 0 i f i c → i ≡ n → Counted f old new 0 n f n c
counted_all {f} C e =
    record { filled = fit C.filled refl e (λ j p q. refl); counted = C.counted ∙ ap (held_to f) e }
