pub mod block_timing
pub mod block_cue
