mod Made
mod CommaParts
mod ErasedRows
mod ErasedUnit
mod Greatest
mod GreatestRows
mod GreatestUnit
