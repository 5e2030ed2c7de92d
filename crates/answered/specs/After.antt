-- What a caller takes over from an answer. "Later calls are lent the length that open or the last accepted edit gave."
use Rattle.std.specs.Prelude.{ℕ, Ok, Err}
use Rattle.promises.specs.Answers.{OpenAnswer, EditAnswer, ListAnswer}

abbrev pub after_open : OpenAnswer → ℕ → ℕ
after_open (Ok k) n = k
after_open (Err r) n = n

abbrev pub after_edit : EditAnswer → ℕ → ℕ
after_edit (Ok x) n = x.length
after_edit (Err r) n = n

-- The rows of an answer, none where the listing is refused.
abbrev pub rows_in : ListAnswer → ℕ
rows_in (Ok x) = x.rows
rows_in (Err r) = 0
