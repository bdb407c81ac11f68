pub mod Settings
pub mod Laws
pub mod Bodies
pub mod Units
pub mod Marks
pub mod Rounds
pub mod Mutants
