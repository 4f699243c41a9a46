pub mod order
pub mod checked_blocks
pub mod sheet_frames
pub mod sheet_permutation
pub mod sheet
