pub mod Parts
pub mod Drafts
pub mod Reading
pub mod Laws
