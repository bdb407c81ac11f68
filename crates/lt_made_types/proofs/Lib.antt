mod MadeTypes
mod Keeping
mod Lookups
mod Growth
mod MadeOperations
mod MadeBinary
mod Specified
mod MadeExpressions
mod MadeDeclarations
pub mod MadeUnits
pub mod ReadValues
