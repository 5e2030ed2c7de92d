-- What a call answers (Answers), the questions that it asks (Questions), and the promise of each: of opening, edit and look-up (Promises),
-- of a reading (Reading) and of a listing (Listing). Run is for the functions inside.
pub mod Answers
pub mod Questions
pub mod Promises
pub mod Reading
pub mod Listing
pub mod Run
