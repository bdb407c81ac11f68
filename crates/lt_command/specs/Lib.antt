pub mod Parts
pub mod Plan
pub mod Views
pub mod Answers
pub mod Reading
