pub mod Literals
pub mod Erasable
pub mod Plain
pub mod Simple
pub mod Examples
pub mod Laws
