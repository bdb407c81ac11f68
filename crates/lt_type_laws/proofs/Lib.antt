mod Cells
mod Memory
mod Alike
mod Machine
mod Programs
mod Standing
mod Growing
mod Roots
mod Setting
mod Expressions
mod Statements
mod Starting
mod Objects
mod Runs
pub mod Lists
mod Shapes
mod Passing
mod Others
mod Accessed
pub mod Equal
pub mod Places
mod Listed
pub mod Units
