-- What a loop over words fills and counts (Counted).
pub mod Counted
