mod Numbers
mod Pure
pub mod Rows
pub mod UnitRows
pub mod TypedRows
