-- The rows before an edit (Front).
pub mod Front
