pub mod Members
pub mod PassedArguments
pub mod JudgedBinary
pub mod JudgedChoices
pub mod JudgedCommas
pub mod JudgedMarks
mod Shifts
