pub mod Laws
pub mod Coming
pub mod ComingItems
pub mod Reaching
