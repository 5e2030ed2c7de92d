-- Which pairs have a slot.
pub mod Pairs
