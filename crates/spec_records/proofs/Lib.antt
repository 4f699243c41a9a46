pub mod map_records
