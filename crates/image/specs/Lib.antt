-- What the readers of an image promise.
pub mod Fields
pub mod Linked
