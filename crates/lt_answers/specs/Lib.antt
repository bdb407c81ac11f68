pub mod Programs
pub mod Entries
pub mod Replays
pub mod Annotations
pub mod Answers
pub mod Laws
pub mod Messages
