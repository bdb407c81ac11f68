pub mod Criteria
pub mod Known
