pub mod sequence
pub mod mapback
pub mod fed
pub mod parkruns
pub mod keptruns
pub mod one_call
pub mod atonceruns
