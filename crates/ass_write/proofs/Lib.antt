pub mod TagSearch
pub mod FieldLoop
