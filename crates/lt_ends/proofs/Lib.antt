pub mod Numerals
pub mod CalmSteps
pub mod Passing
pub mod Falling
pub mod CalmStart
pub mod Over
