pub mod sequence
pub mod mapback
pub mod fed
pub mod parkruns
pub mod keptruns
pub mod atonceruns
