pub mod NumberLaws
pub mod NameLaws
pub mod SlotLaws
pub mod SegmentLaws
pub mod ListLaws
