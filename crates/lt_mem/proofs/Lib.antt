pub mod Finding
pub mod Contents
pub mod Blocks
pub mod Meeting
pub mod Keeping
pub mod Becoming
pub mod Waiting
pub mod Copies
