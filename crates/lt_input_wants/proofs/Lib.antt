pub mod PlaceMaps
pub mod NumberLaws
