-- The seven numbers of each answer (Fields), and what the sheet's exported calls promise (Coded).
pub mod Fields
pub mod Coded
