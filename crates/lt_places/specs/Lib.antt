pub mod Walks
pub mod Closed
pub mod Operands
