-- Lists of feeds and finishes with parkings between them (document 02, 2.10).
pub mod Steps
pub mod Claims
