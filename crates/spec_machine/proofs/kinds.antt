pub mod ColumnBounds
pub mod KindLaws
pub mod EmptyPiece
pub mod Refused
pub mod Native
pub mod KindRoom
pub mod Fits
pub mod Rows
