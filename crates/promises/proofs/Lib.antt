-- What follows from the questions (Asked), the table's size (Tables), and that a run of the evaluator, reported, keeps the promise of a
-- reading (SheetReads) and of a listing (SheetLists); what the definitions settle at their edges (Settled).
pub mod Asked
pub mod Tables
pub mod SheetReads
pub mod SheetLists
pub mod Settled
