pub mod Ends
pub mod Found
pub mod Membered
pub mod TypeOf
