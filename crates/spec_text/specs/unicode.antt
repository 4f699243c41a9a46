-- Code points and their encodings, as RFC 3629 has them, and White_Space as document 01 lists it.
pub mod WhiteSpace
pub mod Encode
