-- The law of the edited table.
pub mod Cases
pub mod TableLaw
