pub mod SyncLaws
pub mod PairLaws
pub mod SnapLaws
pub mod SnapMeaning
pub mod KnownLaws
pub mod SnapRows
