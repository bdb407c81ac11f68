mod Named
mod Keeping
mod Growth
mod Reaching
mod ReachingOperations
mod ReachingBinary
mod KeptTags
mod KeptExpressions
mod NamedParts
mod KeptInitialisers
mod KeptDeclarations
mod KeptStatements
mod ListedPrograms
pub mod KeptUnits
