-- The fields determine the answer.
pub mod Coding
