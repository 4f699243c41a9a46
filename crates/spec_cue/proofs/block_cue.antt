-- The laws of the crate that belong to no one function.
pub mod CountLaws
pub mod WriteLaws
pub mod BlockLaws
pub mod Fits
pub mod FineBlock
pub mod Examples
