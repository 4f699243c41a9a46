pub mod Stills
pub mod Words
