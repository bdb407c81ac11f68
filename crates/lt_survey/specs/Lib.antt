pub use Rattle.lt_copies.specs.Fitting
pub mod Survey
pub mod Marking
pub mod Rounds
