pub mod Known
pub mod Stands
pub mod Opening
pub mod Zeros
pub mod Functions
pub mod Programs
