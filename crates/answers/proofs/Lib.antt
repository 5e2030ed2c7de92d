-- The lemma of one more level of nesting.
pub mod Raised
