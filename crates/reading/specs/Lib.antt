-- The plain reading's promise (Plain) and its code (Code), and what the evaluation of a start pair keeps (Start).
pub mod Plain
pub mod Code
pub mod Start
