-- Theorems about rows and about the walk.
pub mod RowsOnce
pub mod RowsInside
pub mod Windows
pub mod Pairs
pub mod Looks
pub mod Fits
pub mod Lists
pub mod Listed
pub mod Bounds
