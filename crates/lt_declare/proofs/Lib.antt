pub mod Steps
pub mod StructsClosed
pub mod SpecifierParts
pub mod DeclaratorParts
pub mod DeclarationParts
pub mod ParameterLists
