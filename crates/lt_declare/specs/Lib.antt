pub mod DeclaredViews
pub mod Declaring
pub mod DeclaredKinds
