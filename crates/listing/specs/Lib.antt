-- What the functions of the walk promise each other (Gives), and what a listing over records promises (Listed).
pub mod Gives
pub mod Listed
