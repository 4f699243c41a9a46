-- What a whole text of each kind says.
pub mod Ass
pub mod Srt
pub mod Vtt
