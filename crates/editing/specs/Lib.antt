-- The edit of the text (Text), of the table's words (Table), of the pairs that stand (Pairs), and held words and their count (Held).
pub mod Text
pub mod Table
pub mod Pairs
pub mod Held
