-- What the evaluation of a start pair keeps.
use Rattle.std.specs.Prelude.{◌≡◌}
use Rattle.reading.specs.declared.pair.StartPair.{StartPair}

-- Which table is lent, the grammar and the text.
abbrev pub Kept : (before after : StartPair) → Type 0
Kept p q = (q.table.ghost_name ≡ p.table.ghost_name) × (q.image ≡ p.image) × (q.text ≡ p.text)
