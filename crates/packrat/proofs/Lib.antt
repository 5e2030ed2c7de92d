-- The theorems of evaluation over a memo table.
pub mod Gives
pub mod Rules
pub mod Runs
pub mod Stars
pub mod LoadedRuns
pub mod Start
pub mod Gain
pub mod Grown
pub mod Framed
pub mod OverTables
pub mod OnlyOver
pub mod Stores
pub mod TrueTables
pub mod TrueReads
pub mod Allowance
