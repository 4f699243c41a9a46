pub mod ass_write
pub mod ass_line
