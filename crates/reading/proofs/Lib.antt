-- The lemmas of the readings.
pub mod Outcomes
pub mod PlainReading
pub mod Coding
pub mod Consuming
