-- One caption against the map, and what a text's parts become through it.
pub mod Passing
