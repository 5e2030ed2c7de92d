-- The rounds over the nodes of an image: sets as numbers, what a visit adds, the order of a round, and what the rounds leave.
pub mod Sets
pub mod Visits
pub mod Order
pub mod Rounds
pub mod Number
