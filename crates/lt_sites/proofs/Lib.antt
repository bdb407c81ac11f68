pub mod Grown
pub mod Nodes
pub mod Rows
pub mod UnitRows
pub mod Whole
