pub mod Spelling
pub mod Nodes
pub mod Reading
pub mod Merging
pub mod Stages
pub mod Marking
pub mod Spelled
pub mod Annotating
mod Stopped
mod Entries
