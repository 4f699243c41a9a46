-- Lists of feeds and finishes over a session that is kept as its bytes.
pub mod Kept
pub mod Claims
