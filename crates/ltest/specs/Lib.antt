pub mod Texts
pub mod Stages
pub mod Tasks
pub mod Labels
pub mod Usage
