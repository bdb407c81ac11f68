mod Alike
mod Machine
mod Values
mod Expressions
mod Objects
mod Statements
mod Runs
pub mod Lists
pub mod Itself
mod Truths
mod Pure
mod Differences
