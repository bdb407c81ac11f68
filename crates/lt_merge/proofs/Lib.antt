pub mod Merges
pub mod Merging
pub mod Mixed
pub mod KeyLists
pub mod Walks
pub mod NameWalks
pub mod TestWalks
