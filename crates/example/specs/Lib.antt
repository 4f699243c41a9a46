-- Lists of calls made as the contracts say, and the four calls of the worked example with two texts.
pub mod Calls
pub mod Worked
pub mod Texts
pub mod VttRows
pub mod Stored
