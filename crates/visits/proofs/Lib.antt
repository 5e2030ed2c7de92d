-- The lemmas of a visit.
pub mod Tables
pub mod ByKind
pub mod Unions
