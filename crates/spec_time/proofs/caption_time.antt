-- Laws of kinds, conversions and drift.
pub mod Scale
pub mod Conversions
pub mod Drift
pub mod Limits
pub mod Examples
pub mod KindRows
