pub mod Closed
pub mod Parts
pub mod Standing
pub mod Steps
pub mod Noted
pub mod TestPlaces
pub mod AllTests
