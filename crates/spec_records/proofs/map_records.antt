pub mod RecordLaws
pub mod BuildLaws
pub mod SameMap
pub mod Rows
