-- Blocks of 512 bytes.
pub mod Block
