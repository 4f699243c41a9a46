-- Blocks of lines (SRT, WebVTT): what a block says, and what the code answers to it.
pub mod Block
pub mod BlockThrough
