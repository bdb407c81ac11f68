pub mod Cells
pub mod Stacks
pub mod Bindings
pub mod Stubs
