mod Spots
mod SpotsOfExpressions
mod SpotsOfUnits
mod WrittenExpressions
mod WrittenDeclarations
mod WrittenStatements
mod WrittenUnits
pub mod SignsBack
mod ReadSteps
mod ReadTexts
mod ReadForms
pub mod QuotedStrings
pub mod SpelledBytes
mod TypedExpressions
mod TypedUnits
mod NodeSteps
mod NumberedExpressions
mod NumberedDeclarations
mod NumberedUnits
