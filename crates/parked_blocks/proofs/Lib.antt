-- Laws of this crate alone.
pub mod Parts
