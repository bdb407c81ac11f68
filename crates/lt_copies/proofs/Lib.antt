pub mod Declared
pub mod Known
pub mod Rows
pub mod Plain
pub mod Runs
pub mod Units
pub mod Parts
