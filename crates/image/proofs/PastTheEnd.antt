-- Past the end of a byte string every byte reads as 0, and so does every word and every field of a word.
-- Assumes nothing.
use Prim.Native.Nat.{ℕ, ◌+◌, ◌*◌, ◌/◌, ◌≤◌}
use native.Mathlib.Omega.{arith}
use mathlib.Core.Path.{◌≡◌}
use mathlib.Core.List.{List}
use lib.ListN.{length, get_or-eq_default}
use Rattle.grammar.specs.Image.{byte_at, word16, word32, rules, rule_word, node_word}

pub past_byte : (bytes : List ℕ) (at : ℕ) → length bytes ≤ at → byte_at bytes at ≡ 0
past_byte bytes at h = get_or-eq_default bytes 0 h

pub past_word16 : (bytes : List ℕ) (at : ℕ) → length bytes ≤ at → word16 bytes at ≡ 0
past_word16 bytes at h = omega (arith, past_byte bytes at h, past_byte bytes (at + 1) (omega arith))

pub past_word32 : (bytes : List ℕ) (at : ℕ) → length bytes ≤ at → word32 bytes at ≡ 0
past_word32 bytes at h = omega (arith, past_word16 bytes at h, past_word16 bytes (at + 2) (omega arith))

pub past_rules : (img : List ℕ) (r : ℕ) → length img / 2 ≤ r → rule_word img r ≡ 0
unfolding rule_word
past_rules img r h = past_word16 img (4 + 2 * r) (omega arith)

pub past_nodes : (img : List ℕ) (n : ℕ) → length img / 4 ≤ n → node_word img n ≡ 0
unfolding node_word
past_nodes img n h = past_word32 img (4 + 2 * rules img + 4 * n) (omega arith)
