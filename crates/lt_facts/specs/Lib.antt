pub mod Outside
pub mod Numbers
pub mod Indices
pub mod Families
pub mod Facts
pub mod Parameters
