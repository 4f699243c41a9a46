-- The laws of the crate that belong to no one function.
pub mod PlaceLaws
pub mod VttLaws
pub mod PlaceRows
pub mod HeaderRows
