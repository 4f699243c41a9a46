-- The segment map.
pub mod Milestones
pub mod Answer
