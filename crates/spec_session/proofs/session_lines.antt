pub mod TellLaws
pub mod BomLaws
pub mod LentLaws
pub mod DoneLaws
pub mod PlainLaws
pub mod LentRows
