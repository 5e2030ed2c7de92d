-- What a run of the evaluator has and keeps.
pub mod Runs
