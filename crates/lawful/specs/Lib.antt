-- What the functions of questions 1 to 5 promise each other.
pub mod Words
pub mod Tally
