pub mod Tokens
pub mod Facts
pub mod Cells
pub mod Names
pub mod Elements
