-- The lemmas of the walk's code.
pub mod Terminals
pub mod Gives
pub mod Paths
pub mod Rules
pub mod Passes
