-- One line of a text taken, and the end of a block: what they tell at every input, and what that is where the map is good.
pub mod LinesThrough
pub mod Told
pub mod Done
