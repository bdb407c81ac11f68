mod Lists
mod TokenLaws
mod FactRows
mod CellLaws
mod FoundLaws
mod NameLaws
mod ElementLaws
mod ShapeLaws
