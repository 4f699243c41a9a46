-- Laws of times as text.
pub mod Pad
pub mod Written
pub mod Reading
pub mod RoundTrip
pub mod ReadFree
pub mod Marks
pub mod Values
pub mod Examples
