-- Where the rows of a text and its fault stand.
pub mod FaultLine
pub mod Rows
pub mod Enough
pub mod Worked
