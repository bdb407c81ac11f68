pub mod Ends
pub mod Acts
pub mod Noting
pub mod Placing
pub mod Values
pub mod Looking
