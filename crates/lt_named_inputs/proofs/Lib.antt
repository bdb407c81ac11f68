mod Lists
mod NamedParts
mod NamedCells
pub mod NamedInputs
