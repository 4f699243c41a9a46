-- One caption against the map, and what a text's parts become through it.
pub mod Hit
pub mod Grouped
pub mod Lost
pub mod Decide
pub mod Fates
pub mod Says
pub mod Bom
pub mod Emit
pub mod Warns
pub mod Cases
pub mod Told
