-- The evaluator as a function (Model), over a loaded grammar (Loaded), what its functions promise each other (Gives), what a session
-- starts (Session) and how the allowance decides (Allowance); evaluation over records (Over), true and closed tables (True, Closed), what
-- a run stores (Stores) and what it never touches (Framed).
pub mod Model
pub mod Gives
pub mod Session
pub mod Loaded
pub mod Allowance
pub mod Over
pub mod True
pub mod Stores
pub mod Closed
pub mod Framed
