pub use Rattle.lt_meaning.specs.Runs
pub mod Renamed
pub mod Beside
pub mod Further
pub mod Laws
