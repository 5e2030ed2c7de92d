-- The rows from an edit on (Back).
pub mod Back
