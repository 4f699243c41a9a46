pub mod map_records
pub mod map_records_own
