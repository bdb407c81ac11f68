pub mod Places
pub mod Cells
pub mod Stubs
pub mod Marks
