-- The record word (Words), where a pair's record lies (Slots), and which words can follow each other (Joinable).
pub mod Words
pub mod Slots
pub mod Joinable
