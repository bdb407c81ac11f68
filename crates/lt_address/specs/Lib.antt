pub mod Targets
pub mod Value
pub mod Seeking
