-- Which words an edit keeps (Kept), and the turns of a loop over words (Turns).
pub mod Kept
pub mod Turns
