pub mod Lists
pub mod Naming
pub mod Rows
pub mod Seeing
pub mod Tables
pub mod Suites
