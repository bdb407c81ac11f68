pub mod Lists
pub mod Levels
pub mod Heads
pub mod Declarators
pub mod Members
pub mod Statements
pub mod Laws
