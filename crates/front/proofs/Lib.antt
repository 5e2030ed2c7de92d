-- The laws of the rows before an edit.
pub mod ScanLaw
pub mod Pieces
pub mod Rows
pub mod FromRow
