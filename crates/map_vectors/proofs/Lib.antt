pub mod Segments
pub mod BlankList
pub mod StillMaps
pub mod Orders
