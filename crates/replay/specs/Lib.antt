-- What a call that is made and reported keeps.
pub mod Calls
