-- Times as text.
pub mod Plain
