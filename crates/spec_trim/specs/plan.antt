-- Ranges moved to sync frames.
pub mod Snap
