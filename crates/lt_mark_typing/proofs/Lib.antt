pub mod Numbers
pub mod Going
pub mod GoodIds
pub mod ObjectNumbers
pub mod Nodes
pub mod Operands
pub mod Operators
mod BinaryOperators
pub mod Renumbering
mod OneOperand
mod TwoOperands
pub mod Ends
pub mod Names
pub mod ObjectsThere
pub mod Labels
pub mod Steps
pub mod Tags
pub mod Declarators
pub mod Knowing
pub mod Unchanged
pub mod Quiet
pub mod NewMarks
pub mod Predicates
pub mod Placing
mod Fronts
pub mod Again
pub mod Linked
pub mod Filled
pub mod Fillings
pub mod Declared
pub mod Declarations
pub mod Initialisers
pub mod DeclaredAgain
pub mod StatementParts
pub mod Statements
pub mod Units
