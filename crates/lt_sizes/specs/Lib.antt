pub use Rattle.lt_code.specs.Bounds
pub use Rattle.lt_code.specs.Costs
pub mod Laws
pub mod Samples
