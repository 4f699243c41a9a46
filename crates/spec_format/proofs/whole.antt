-- The blocks of a text, and worked texts of each kind.
pub mod BlockShape
pub mod AssTexts
pub mod SrtTexts
pub mod VttTexts
