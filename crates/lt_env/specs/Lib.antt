pub mod ScopeFrames
pub mod NamesValue
pub mod NameMaps
pub mod LabelMaps
pub mod Symbols
pub mod Views
pub mod Going
