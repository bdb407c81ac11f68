mod References
mod Steps
mod TypesInRange
mod TypedInRange
mod Lookups
mod OperationsInRange
mod BinaryInRange
mod Growth
mod NewLabels
mod Nodes
mod Specified
mod RangedExpressions
mod FillingsInRange
mod RangedDeclarations
pub mod RangedUnits
pub mod LastingIds
pub mod IdsHaveRows
pub mod WhatIsThere
mod Samples
