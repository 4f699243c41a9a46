pub mod whole
pub mod back
