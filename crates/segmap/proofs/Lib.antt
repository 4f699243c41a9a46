pub mod MilestoneLaws
pub mod CopyLaws
pub mod PairTests
