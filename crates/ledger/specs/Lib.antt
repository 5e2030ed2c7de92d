-- The plain ledger (Ledger), demand 3 (Demand), what follows from it (Corollaries), and a session among the marked cases (Sessions).
pub mod Ledger
pub mod Demand
pub mod Corollaries
pub mod Sessions
