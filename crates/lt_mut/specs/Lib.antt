pub mod Mutations
pub mod Candidates
pub mod Operands
