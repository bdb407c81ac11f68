pub use Rattle.lt_meaning.specs.Expressions
pub use Rattle.lt_meaning.specs.Statements
pub use Rattle.lt_meaning.specs.Runs
pub mod Samples
pub mod UsedValues
pub mod Laws
