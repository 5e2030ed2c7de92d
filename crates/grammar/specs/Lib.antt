-- The definitions of the language. "The paper" is document 01; a sentence in quotation marks is the paper's, or
-- where (02, R-n) stands with it, that of a request in document 02; RFC 3629's is marked too.
pub mod Image
pub mod Outcomes
pub mod WellFormed
pub mod Between
pub mod Characters
pub mod Terminal
pub mod OneCharacter
pub mod Evaluates
pub mod Refusals
pub mod Questions
pub mod Tests
