-- The theorems.
pub mod Cues
pub mod SameJudgement
pub mod SameFate
