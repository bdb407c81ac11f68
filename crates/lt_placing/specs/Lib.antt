pub mod NewMarks
pub mod Walks
pub mod Parts
