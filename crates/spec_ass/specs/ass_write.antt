-- Captions of ASS: relative timing tags, and the frame of a caption around its times.
pub mod Tags
pub mod Frame
