pub use Rattle.lt_objectives.specs.Criteria
pub use Rattle.lt_objectives.specs.Marked
pub mod MarkedTexts
pub mod MarkedRuns
