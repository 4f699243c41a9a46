pub mod caption_time
pub mod caption_stamp
