-- The theorems of the language.
pub mod Bools
pub mod Writes
pub mod Nodes
pub mod References
pub mod First
pub mod Acceptance
pub mod Between
pub mod Characters
pub mod Terminals
pub mod OneCharacter
pub mod Folding
pub mod Determinism
pub mod Tests
pub mod Refusals
