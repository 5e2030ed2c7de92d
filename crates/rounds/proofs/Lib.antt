-- The theorems about the rounds.
pub mod Bits
pub mod Gathering
pub mod Forming
pub mod Weights
pub mod Stops
pub mod Turns
pub mod OutcomeRounds
pub mod FormedRounds
pub mod Orders
pub mod Number
pub mod Stars
