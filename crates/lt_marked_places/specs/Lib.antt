pub use Rattle.lt_meaning.specs.Runs
pub mod Laws
