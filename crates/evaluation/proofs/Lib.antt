-- The theorems about evaluations.
pub mod Shape
pub mod Described
pub mod Plain
pub mod Totality
pub mod Locality
pub mod Pairs
pub mod CallLocality
pub mod Relocation
pub mod Counts
pub mod Bodies
pub mod BodiesOnce
pub mod Range
pub mod Reach
pub mod Inside
