pub mod Greatest
pub mod Walk
pub mod Views
pub mod Marks
