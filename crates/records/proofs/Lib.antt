-- The lemmas of the record word, and the laws of a slot.
pub mod Codec
pub mod Test
pub mod Slots
