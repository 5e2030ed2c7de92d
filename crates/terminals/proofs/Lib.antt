-- The words of a terminal's evaluations.
pub mod TerminalWords
pub mod CharacterWords
