pub use Rattle.lt_ir.specs.Running
pub use Rattle.lt_ir.specs.Evaluation
pub use Rattle.lt_ir.specs.Starting
pub mod Expressions
pub mod Statements
pub mod Runs
pub mod Clashes
