pub mod Reach
pub mod Fronts
pub mod Sound
pub mod Cutting
pub mod Reading
pub mod Nesting
pub mod Answering
