pub mod Rising
pub mod Alike
pub mod RisingExpressions
pub mod RisingDeclarations
pub mod RisingUnits
