-- A written caption, read again, says the same cue with the new times.
pub mod AssLine
pub mod TimingLine
pub mod TimingBlock
pub mod BlockKinds
pub mod Stands
