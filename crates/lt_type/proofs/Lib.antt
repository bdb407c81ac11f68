pub mod Sequences
pub mod Turns
pub mod Seen
pub mod MarkTurns
pub mod InsideTurns
mod ParameterTurns
