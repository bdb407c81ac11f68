pub mod Combinations
pub mod Candidates
