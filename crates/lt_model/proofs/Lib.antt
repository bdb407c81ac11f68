pub mod Whole
pub mod Fitting
pub mod Ranges
pub mod Values
pub mod Results
pub mod Counting
pub mod Nesting
pub mod Layouts
