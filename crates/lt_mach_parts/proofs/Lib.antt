pub mod Meeting
pub mod Reading
pub mod Stacked
pub mod Scoped
pub mod Placed
