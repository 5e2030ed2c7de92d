-- A line of the marked cases that is a session: a text opened in a buffer of cap bytes, calls, and the replies along them.
use Rattle.std.specs.Prelude.{Ok}
use Rattle.std.specs.Prelude.{ℕ, ◌≡◌, List, length}
use Rattle.grammar.specs.Image.{rules}
use Rattle.grammar.specs.Questions.{Accepted}
use Rattle.editing.specs.Table.{table_size}
use Rattle.promises.specs.Questions.{Question8}
use Rattle.promises.specs.Promises.{OpenPromise}
use Rattle.ledger.specs.Ledger.{Evaluations, Call, Reply, opened_ledger, replies}
use Rattle.ledger.specs.Demand.{loan, Trace}

-- The image is accepted, the text fits the buffer, so that openings and runs exist, the replies are the ledger's, and so are those of every
-- run whose calls kept their promises.
pub record SessionSays (img text : List ℕ) (cap : ℕ) (calls : List Call) (answers : List Reply) : Type 0 where
  pub accepted : Accepted img
  pub lent : Question8 img cap (length text) (table_size (rules img) cap)
  pub ledger : (ev : Evaluations) → replies ev cap (opened_ledger img accepted text) calls ≡ answers
  pub runs :
      (B₀ W₀ B W : List ℕ) (n : ℕ)
      → length B₀ ≡ cap
      → OpenPromise img text B₀ W₀ (Ok n) B W
      → (given : List Reply) (img' B' W' : List ℕ) (n' : ℕ)
      → Trace (loan img B n W) calls given (loan img' B' n' W')
      → given ≡ answers
