-- Small sheets for worked examples.
pub mod Turned
pub mod Synced
