pub mod Terms
pub mod Rows
pub mod Lines
pub mod Refutation
pub mod Room
pub mod Adding
pub mod Store
pub mod Taking
