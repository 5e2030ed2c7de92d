-- The marked cases hold: one theorem over the whole table, and one over the witnesses. Assumes nothing.
use Rattle.marked.specs.Cases.{Hold, marked, witnesses}
use Rattle.marked.proofs.Sessions.{m1_holds, m2_holds, m3_holds, m4_holds, m5_holds, m6_holds}
use Rattle.marked.proofs.Sessions.{over_holds, refused_holds, listed_holds, parts_holds, fold_holds, letter_holds}
use Rattle.marked.proofs.Nested.{m10_accepted, m10_read, m10_refused, deep_holds}
use Rattle.marked.proofs.Images.{d2_accepted, parts_accepted, m7_refused, m8_refused, m9_refused}
use Rattle.marked.proofs.Images.{empty_refused, edition_refused, start_refused, size_refused, child_refused, orphan_refused}
use Rattle.marked.proofs.Images.{kilo_accepted, folded_any_refused, second_bit_refused, dot_accepted, letters_accepted}

pub marked_hold : Hold marked
marked_hold = (
  d2_accepted,
  (
    m1_holds,
    (
      m2_holds,
      (m3_holds, (m4_holds, (m5_holds, (m6_holds, (m7_refused, (m8_refused, (m9_refused, (m10_accepted, (m10_read, (m10_refused, tt)))))))))),
    ),
  ),
)

pub witnesses_hold : Hold witnesses
witnesses_hold = (
  empty_refused,
  (
    edition_refused,
    (start_refused, (size_refused, (child_refused, (orphan_refused, (over_holds, (refused_holds, (listed_holds, (parts_accepted, (parts_holds, (deep_holds, (kilo_accepted, (folded_any_refused, (second_bit_refused, (fold_holds, (dot_accepted, (letters_accepted, (letter_holds, tt))))))))))))))))),
  ),
)
