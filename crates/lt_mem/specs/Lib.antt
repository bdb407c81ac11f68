pub mod Cells
pub mod Image
pub mod Calls
pub mod Steps
pub use Rattle.lt_model.specs.Memory
