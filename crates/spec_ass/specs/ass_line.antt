-- What an ASS line says, and what the code answers to it.
pub mod Line
pub mod AssThrough
