-- The laws of the rows from an edit on.
pub mod Turns
pub mod BackLaw
