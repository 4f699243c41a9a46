pub mod StandLaws
pub mod TextLaws
pub mod WholeLaws
pub mod ToldLaws
