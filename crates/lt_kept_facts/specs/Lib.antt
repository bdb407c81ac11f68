pub mod Asked
pub mod Laws
pub mod Known
pub mod Objectives
