-- The faults of a frame sheet, and the answer of its check.
pub mod Sheet
