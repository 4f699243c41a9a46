-- Segments, and the limits of a map.
pub mod Segment
pub mod Groups
