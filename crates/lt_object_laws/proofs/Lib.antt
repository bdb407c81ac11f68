pub mod Numbers
mod Blocks
mod Memory
mod Alike
mod Machine
mod Pure
pub mod Trees
mod Expressions
mod Statements
mod Filling
mod Room
mod Beginning
mod Objects
mod Calls
mod Starting
pub mod Runs
