pub mod Sites
pub mod NoMarks
pub mod Rounds
