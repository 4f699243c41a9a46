pub mod MarkLaws
pub mod TokenLaws
pub mod TokensLaws
pub mod RangeLaws
pub mod ReadLaws
pub mod Edges
pub mod Vectors
