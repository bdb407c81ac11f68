pub mod AtNodes
pub mod ParameterDomains
