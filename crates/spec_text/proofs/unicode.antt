pub mod Listed
pub mod Encoding
pub mod Trailing
pub mod Decoding
pub mod Utf8Parts
pub mod Trimming
pub mod Vectors
pub mod BlankLaws
