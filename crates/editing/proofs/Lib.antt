-- The laws of the edit.
pub mod Lengths
pub mod Held
pub mod Tabulated
pub mod Ledger
pub mod Loans
