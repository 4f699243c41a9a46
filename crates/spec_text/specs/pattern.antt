-- A pattern in a text, and the pieces between its places.
pub mod Find
pub mod Piece
