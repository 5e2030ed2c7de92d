-- The laws of the rows that are printed.
pub mod Rows
