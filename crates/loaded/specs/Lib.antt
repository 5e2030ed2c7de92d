-- What a loaded grammar is.
pub mod Loaded
