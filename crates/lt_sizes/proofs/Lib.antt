mod Among
mod Texts
mod WholeTexts
mod Walks
mod Values
mod Operations
mod PaidExpressions
mod Payments
mod PaidDeclarations
mod PaidStatements
mod FunctionsStay
mod FunctionsStayInBodies
pub mod PaidUnits
