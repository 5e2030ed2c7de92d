-- The theorems about the ledger and lists of calls.
pub mod Kept
pub mod Fresh
pub mod Inv
pub mod Asks
pub mod StepRead
pub mod StepList
pub mod Called
pub mod Sums
pub mod Edited
pub mod StepEdit
pub mod StepLookUp
pub mod Demand
pub mod RunLists
pub mod Runs
pub mod Corollaries
pub mod Sessions
