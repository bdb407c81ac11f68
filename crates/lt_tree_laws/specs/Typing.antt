-- Node numbers, and examples of the typing rules.
pub mod NodeNumbers
pub mod ExampleTexts
pub mod ExpressionExamples
pub mod UnitExamples
pub mod ProgramExamples
