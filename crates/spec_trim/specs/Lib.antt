pub mod trim
pub mod plan
