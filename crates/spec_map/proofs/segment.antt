pub mod SegmentLaws
pub mod Edges
pub mod GroupLaws
pub mod GroupRows
