pub mod Images
pub mod Sessions
pub mod Characters
pub mod Nested
pub mod Marked
pub mod Foreign
