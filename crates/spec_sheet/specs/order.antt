-- Display indices and their frame count.
pub mod Count
