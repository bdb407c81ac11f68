mod ConstantNumbers
mod ConstantTypes
pub mod TableElements
pub mod TableRows
pub mod TableEqual
pub mod TableFound
pub mod TablePut
pub mod TableFacts
pub mod TableMade
pub mod TableSame
pub mod TablePointers
pub mod TableBare
pub mod StructNesting
pub mod StructFound
pub mod StructPlaces
pub mod StructRows
pub mod StructTables
pub mod StructQueries
pub mod StructMembers
pub mod TypesSuit
pub mod RowsOnce
