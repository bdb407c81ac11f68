pub mod Clauses
pub mod Expressions
pub mod Conjunctions
pub mod Differences
pub mod Domains
pub mod Laws
