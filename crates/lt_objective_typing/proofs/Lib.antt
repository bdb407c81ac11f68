mod Both
mod Old
mod Made
mod Constants
mod Clauses
mod Equalities
mod Mutants
mod Domains
mod Growing
mod Parts
mod Places
mod Marked
pub mod Ids
