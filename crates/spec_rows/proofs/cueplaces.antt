-- Where the rows of a text and its fault stand.
pub mod Stops
pub mod AssStops
pub mod BlockMore
pub mod BlockStops
pub mod LineOfFault
pub mod Bytes
pub mod AssRows
pub mod BlockRows
pub mod TheRows
pub mod EnoughPlaces
pub mod WorkedRows
