mod Resting
mod Keeping
mod Growth
mod RestingOperations
mod RestingBinary
mod KeptExpressions
mod KeptInitialisers
mod KeptDeclarations
pub mod KeptUnits
