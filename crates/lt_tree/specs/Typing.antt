-- The typing rules of C, in the order of the standard's chapters where they have one.

-- types, constants, and the rules
pub mod Types
pub mod Extents
pub mod Constants
pub mod Rules
-- what typing gives, and what is known on the way
pub mod TypedTree
pub mod Entities
pub mod Steps
-- expressions
pub mod Operands
pub mod Expressions
pub mod Operations
pub mod BinaryOperations
pub mod MarkRules
-- declarations, which expressions hold too
pub mod Specifying
pub mod Declarators
pub mod NodeEnds
pub mod ExpressionTyping
pub mod Filling
pub mod InitialiserTyping
pub mod Declaring
pub mod DeclarationTyping
-- statements and units
pub mod StatementTyping
pub mod Programs
pub mod Ranges
pub mod UnitTyping
-- what lies in memory
pub mod Shapes
pub mod TypeRows
pub mod ConstancyView
pub mod ValueView
pub mod StatementView
pub mod EntityView
pub mod TypeIds
pub mod MemoryRanges
pub mod ProgramView
