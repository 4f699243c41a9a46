-- What a character is: UTF-8.
pub mod Utf8
