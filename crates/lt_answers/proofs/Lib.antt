mod Same
pub mod Missing
mod Once
pub mod Annotated
pub mod Due
