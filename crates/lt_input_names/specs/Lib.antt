pub mod Blocks
pub mod Kinds
pub mod Stubs
pub mod Found
pub mod Roots
pub mod Views
pub mod Parts
pub mod Targets
