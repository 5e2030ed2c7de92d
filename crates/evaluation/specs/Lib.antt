-- The shape of an evaluation, what is made inside it, its pairs and counts of pairs; the theorems about evaluations are in proofs/.
pub mod Within
pub mod Calls
pub mod Counts
pub mod Inside
