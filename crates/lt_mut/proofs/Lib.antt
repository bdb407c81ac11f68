mod Parts
mod ValueParts
mod OperandNumbers
mod Families
mod Shown
