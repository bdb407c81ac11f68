pub mod Pointing
pub mod Merging
pub mod Comparing
pub mod Parts
