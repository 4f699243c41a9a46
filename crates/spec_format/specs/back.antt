-- What a caption that is read stands in.
pub mod Stands
