pub mod checked_blocks
pub mod sheet_frames
pub mod sheet_permutation
