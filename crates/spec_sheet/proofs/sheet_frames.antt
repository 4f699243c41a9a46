pub mod FrameLaws
pub mod TicksLaws
pub mod Rows
pub mod RecordRows
