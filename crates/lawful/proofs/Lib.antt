-- The lemmas of questions 1 to 5, and those that the whole check shares.
pub mod All
pub mod InRange
pub mod Tallies
pub mod Told
