-- What a field of a line means.
pub mod Fields
