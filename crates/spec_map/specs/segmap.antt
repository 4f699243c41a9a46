-- The segment map.
pub mod Build
pub mod Map
