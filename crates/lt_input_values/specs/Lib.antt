pub mod Finding
pub mod Bounds
pub mod Maps
pub mod Laws
