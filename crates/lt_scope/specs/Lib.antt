pub mod Names
pub mod Binders
