pub mod ScopeFrames
pub mod Goings
mod FaultLists
pub mod NameMaps
mod DeclaredNames
mod LabelNames
mod LinkedObjects
mod FinishedNodes
pub mod Judgements
pub mod Conversions
