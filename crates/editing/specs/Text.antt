-- The text: what an opening and an edit leave in the lent buffer.
use Rattle.std.specs.Prelude.{ℕ, ◌+◌, ◌-◌, ◌≤◌, List, ◌++◌, length, take, drop, replicate}

-- n', the length after bytes s to e − 1 of n gave way to k others.
abbrev pub new_length : (n s e k : ℕ) → ℕ
new_length n s e k = n - (e - s) + k

-- An edit that was not refused: "8. .. the text at most cap", "9. Edit: s ≤ e ≤ n?", "10. Edit: n' ≤ cap?".
pub record EditFits (cap n s e k : ℕ) : Type 0 where
  pub lent : n ≤ cap
  pub ordered : s ≤ e
  pub within : e ≤ n
  pub room : new_length n s e k ≤ cap

-- "bytes s to e − 1 give way to r; buffer bytes past the new length n' become 0."
unfoldable pub text_after : (buffer : List ℕ) (n s e : ℕ) (r : List ℕ) → List ℕ
text_after buffer n s e r =
    take s buffer ++ (r ++ (take (n - e) (drop e buffer) ++ replicate (length buffer - new_length n s e (length r)) 0))

-- "Open: copies the text, zeroes the rest of the buffer".
abbrev pub opened : (cap : ℕ) (text : List ℕ) → List ℕ
opened cap text = text ++ replicate (cap - length text) 0

-- A text after an edit: "bytes s to e − 1 give way to r".
abbrev pub edited : (text : List ℕ) (s e : ℕ) (r : List ℕ) → List ℕ
edited text s e r = take s text ++ (r ++ drop e text)
