-- Where the times of a block stand: the rules of its kind, the timing line, the end time, the header.
pub mod Style
pub mod Header
pub mod Arrow
pub mod Place
