-- What a caller takes over from an answer.
pub mod After
