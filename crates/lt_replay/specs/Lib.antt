pub mod Marks
pub mod Seen
pub mod Order
pub mod Drafts
