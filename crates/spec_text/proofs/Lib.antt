pub mod utf8
pub mod whitespace
pub mod pattern
pub mod text
pub mod unicode
