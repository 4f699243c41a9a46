-- Laws of maps that ascend.
pub mod AscendLaws
pub mod Moves
pub mod Places
pub mod Plain
pub mod Rows
