-- What a loop over a lent slice leaves (Filled).
pub mod Filled
