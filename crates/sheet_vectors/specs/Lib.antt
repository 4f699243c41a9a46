-- Sheets by their words, and document 01's small sheet.
pub mod Small
pub mod Long
