pub mod StandLaws
pub mod RunLaws
pub mod EndLaws
pub mod CallLaws
