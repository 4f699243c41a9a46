-- What a frame sheet says.
pub mod Frames
