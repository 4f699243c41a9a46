pub mod segment
pub mod segmap
