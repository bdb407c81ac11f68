mod Samples
mod UsedValues
