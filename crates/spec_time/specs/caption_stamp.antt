-- A time as text: what a text reads as, and the text of a time.
pub mod Read
pub mod Write
