pub mod Parts
pub mod SiteRuns
pub mod Numbered
mod Wrappings
mod ValuePositions
mod Opens
