pub use Rattle.lt_meaning.specs.Runs
pub mod Renumbered
pub mod TypeLists
pub mod Accesses
pub mod Laws
