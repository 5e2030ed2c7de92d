-- The words of terminals; what a step of a run leaves to the next.
pub mod Terminals
pub mod Steps
