pub use Rattle.lt_type_laws.specs.Accesses
pub mod Laws
