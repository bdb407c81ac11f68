pub use Rattle.lt_meaning.specs.Runs
pub mod Added
pub mod Laws
pub mod Mutants
