-- The law of the edited text.
pub mod TextLaw
