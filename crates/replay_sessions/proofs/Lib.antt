pub mod OpLaws
pub mod RunLaws
