pub mod Unique
pub mod Placed
pub mod OneAnswer
pub mod Literals
