pub mod map_json_write
pub mod map_json_read
