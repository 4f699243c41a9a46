pub mod Text
pub mod Chain
pub mod LimitRows
