pub mod Knowing
pub mod Arguments
pub mod MarkEnds
