-- The laws of filled stretches, of lent parts, and that a filled list is a list.
pub mod Fill
pub mod Parts
