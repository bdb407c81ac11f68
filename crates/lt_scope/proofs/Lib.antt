pub mod Standings
mod Innermost
