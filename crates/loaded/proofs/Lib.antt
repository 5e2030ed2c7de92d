-- The words of a loaded grammar, and that a lawful image has one.
pub mod LoadedWords
pub mod LoadedImage
